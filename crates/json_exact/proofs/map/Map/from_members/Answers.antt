use Rattle.std.proofs.Common.{◌≡◌, map, sym, ap, ◌∙◌}
use Rattle.std.specs.Prelude.{option_map, Err}
use Rattle.key_map.specs.declared.map_error.MapError.{MapError}
use Rattle.key_map.specs.declared.map_error.MapError.TheVariants as refusals
use Rattle.json_model.specs.Parts.{lookup}
use Rattle.json_exact.specs.Trees.{tree}
use Rattle.json_exact.proofs.TreeLaws.{under, lookup-map, members-pairs, members-moved}
use Rattle.key_map.specs.Pairs.{pair_of}
use Rattle.json_exact.proofs.map.Map.from_members.Goals as goal

pub returns-in-Ok-clause-members : goal.returns-in-Ok-clause-members
returns-in-Ok-clause-members c = members-moved c.args.members.items _ c.in-Ok.ensures.members

pub returns-in-Ok-clause-same : goal.returns-in-Ok-clause-same
returns-in-Ok-clause-same c = λ k. under k _ ∙ ap (option_map tree) (c.in-Ok.ensures.same k)
    ∙ sym (lookup-map k (map pair_of c.args.members.items)) ∙ ap (lookup k) (members-pairs c.args.members.items)

pub returns-in-Err-clause-repeated : goal.returns-in-Err-clause-repeated
returns-in-Err-clause-repeated c = λ place e.
    let same : c.in-Err.error ≡ refusals.RepeatedKey place = cc in
    c.in-Err.ensures.repeated place (ap (λ (x : MapError). Err x) same)
