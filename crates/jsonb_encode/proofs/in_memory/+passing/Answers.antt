use Rattle.std.proofs.Common.{◌≤◌, map, sym, subst, arith}
use Rattle.json_model.specs.Nest.{nest, nest_elements}
use Rattle.json_model.specs.Parts.{elements_from}
use Rattle.json_exact.specs.MapIteration.{left}
use Rattle.json_exact.specs.Trees.{tree, pairs}
use Rattle.json_exact.specs.declared.value.Value.{Value}
use Rattle.json_exact.proofs.NestLaws.{element_nests}
use Rattle.jsonb_encode.proofs.InMemory.{last_member}
use Rattle.jsonb_encode.proofs.in_memory.+passing.Goals as goal

pub pass_over_elements-pass_over-requires : goal.pass_over_elements-pass_over-requires
pass_over_elements-pass_over-requires t c =
    let inside = subst (λ (v : Value). nest (tree v) ≤ nest_elements (elements_from (map tree c.args.elements.now))) (sym c.index-elements-i.is)
    (element_nests c.args.elements.now c.loop-i.i c.index-elements-i.result c.loop-i-test.true) in
    (omega (arith, inside, c.decreases), tt)

pub pass_over_members-returns : goal.pass_over_members-returns
pass_over_members-returns t c =
    last_member (left c.loop-value.value-iterator) (pairs c.args.members.now) c.in-None.ensures.steps.0 c.loop-value.invariant.wanted
    c.iter-value-items.ensures.rise
