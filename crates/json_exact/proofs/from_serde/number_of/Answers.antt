use Rattle.std.proofs.Common.{◌≡◌, None, sym, ap, ◌∙◌, ℤ, pos, w64, rules}
use Rattle.std.specs.Prelude.{◌*ℤ◌}
use mir.Val.{SFits}
use Rattle.std.proofs.lemmas.Int.{to_z-of_z}
use Rattle.serde_json.specs.Find.{as_u64}
use Rattle.serde_json.specs.View.{number_view}
use Rattle.json_exact.specs.Exact.{parts}
use Rattle.json_exact.proofs.SerdeNumberLaws.{whole_exact, natural_is, negative_is}
use Rattle.json_exact.proofs.from_serde.number_of.Goals as goal

pub new-requires-clause-exact : goal.new-requires-clause-exact
new-requires-clause-exact c = whole_exact (pos c.in-Some.natural) c.from_u64.result c.from_u64.ensures.value

pub new-requires-in-Some-as_i64-clause-exact : goal.new-requires-in-Some-as_i64-clause-exact
new-requires-in-Some-as_i64-clause-exact c =
    let z = c.in-Some-as_i64.whole in
    let f : SFits w64 z = search rules in
    whole_exact z c.from_i64.result (c.from_i64.ensures.value ∙ ap (λ (v : ℤ). v *ℤ pos parts) (to_z-of_z w64 z f))

pub returns-in-Some-clause-number : goal.returns-in-Some-clause-number
returns-in-Some-clause-number c =
    natural_is (number_view c.args.number.now) c.in-Some.natural c.from_u64.result c.new.result (sym c.as_u64.ensures ∙ c.in-Some.is)
    c.from_u64.ensures.value c.new.ensures.worth c.new.ensures.places

pub returns-in-Some-as_i64-clause-number : goal.returns-in-Some-as_i64-clause-number
returns-in-Some-as_i64-clause-number c =
    let z = c.in-Some-as_i64.whole in
    let f : SFits w64 z = search rules in
    let none : as_u64 (number_view c.args.number.now) ≡ None = cc in
    negative_is (number_view c.args.number.now) z c.from_i64.result c.new-in-Some-as_i64.result none
    (sym c.as_i64.ensures ∙ c.in-Some-as_i64.is) (c.from_i64.ensures.value ∙ ap (λ (v : ℤ). v *ℤ pos parts) (to_z-of_z w64 z f))
    c.new-in-Some-as_i64.ensures.worth c.new-in-Some-as_i64.ensures.places
