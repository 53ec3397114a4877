use Rattle.std.proofs.Common.{◌≤◌, map, sym, subst, arith}
use Rattle.json_model.specs.Nest.{nest, nest_elements}
use Rattle.json_model.specs.Parts.{elements_from}
use Rattle.json_exact.specs.Trees.{tree}
use Rattle.json_exact.specs.declared.value.Value.{Value}
use Rattle.json_exact.proofs.NestLaws.{element_nests}
use Rattle.jsonb_encode.proofs.fitting.+fitting.Goals as goal

pub elements_fit-value_fits-requires : goal.elements_fit-value_fits-requires
elements_fit-value_fits-requires t c =
    let inside = subst (λ (v : Value). nest (tree v) ≤ nest_elements (elements_from (map tree c.args.elements.now))) (sym c.index-elements-i.is)
    (element_nests c.args.elements.now c.loop-i.i c.index-elements-i.result c.loop-i-test.true) in
    (omega (arith, inside, c.decreases), tt)
