use Rattle.std.proofs.Common.{ap, sym, ◌∙◌}
use Rattle.std.specs.Option.{is_some}
use Rattle.pattern_tree.specs.Places.{place_of}
use Rattle.pattern_tree.proofs.PlaceLaws.{lacks, has_one}
use Rattle.pattern_tree.proofs.places.Places.has_all.Goals as goal

pub returns-then-not-contains_key : goal.returns-then-not-contains_key
returns-then-not-contains_key c =
    sym (lacks c.args.self.now c.loop-name.names.items c.pop.new.self.items c.in-Some.name c.in-Some.ensures.items
    (ap (λ z. is_some (place_of c.args.self.now z)) (sym c.as_str.ensures.value) ∙ sym c.if-not-contains_key.ensures))
    ∙ c.loop-name.invariant

pub loop-name-preserved : goal.loop-name-preserved
loop-name-preserved c =
    sym (has_one c.args.self.now c.loop-name.names.items c.pop.new.self.items c.in-Some.name c.in-Some.ensures.items
    (ap (λ z. is_some (place_of c.args.self.now z)) (sym c.as_str.ensures.value) ∙ sym c.if-not-contains_key.ensures))
    ∙ c.loop-name.invariant
