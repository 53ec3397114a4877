use Rattle.std.proofs.Common.{◌∙◌}
use Rattle.json_traits.proofs.BuildingLaws.{string_built, number_built, boolean_built, null_built}
use Rattle.json_traits.proofs.building.build_scalar.Goals as goal

pub returns-in-Some : goal.returns-in-Some
returns-in-Some g c =
    string_built (g.F.Node.HasTree.tree c.args.node.now) c.in_ok-from_str.field-0 _ (c.in_ok-from_str.ensures.ok ∙ c.as_str.ensures) c.in-Some.ensures

pub returns-in-Some-as_number : goal.returns-in-Some-as_number
returns-in-Some-as_number g c = number_built (g.F.Node.HasTree.tree c.args.node.now) c.in-Some-as_number.number c.in-Some-as_number.ensures

pub returns-in-Some-as_boolean : goal.returns-in-Some-as_boolean
returns-in-Some-as_boolean g c = boolean_built (g.F.Node.HasTree.tree c.args.node.now) c.in-Some-as_boolean.truth c.in-Some-as_boolean.ensures

pub returns-in-None : goal.returns-in-None
returns-in-None g c =
    null_built (g.F.Node.HasTree.tree c.args.node.now) c.requires.no_array c.requires.no_object c.in_default.ensures c.in_default-as_number.ensures
    c.in-None.ensures
