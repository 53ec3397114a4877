-- Which schemas ask for unique elements, the one thing for which checking a document takes memory. This project's own.
use Rattle.std.specs.Prelude.{⊤}
use Rattle.json_model.specs.Tree.{Tree, scalar, array, object, Elements, no_elements, element, Members, no_members, member}
use Rattle.flat_keywords.specs.Validity.{AsksUnique}
use Rattle.judge_tree.specs.Applicators.{applicator_of, line_of}

abbrev mutual
  -- neither the schema nor one inside it has `uniqueItems` with true
  pub NeverAsks : Tree → Type 0
  NeverAsks (scalar s) = ⊤
  NeverAsks (array ts) = ⊤
  NeverAsks (object ms) = NoMemberAsks ms

  pub NoMemberAsks : Members → Type 0
  NoMemberAsks no_members = ⊤
  NoMemberAsks (member k v ms) = line_of (applicator_of k) (record {
    flat = AsksUnique (k, v) → ⊥;
    properties = NoPropertyAsks v;
    others = NeverAsks v;
    items = NeverAsks v;
    all = NoneInListAsks v;
    any = NoneInListAsks v;
    negated = NeverAsks v;
  }) × NoMemberAsks ms

  -- no schema in the value of `properties` does
  pub NoPropertyAsks : Tree → Type 0
  NoPropertyAsks (scalar s) = ⊤
  NoPropertyAsks (array ts) = ⊤
  NoPropertyAsks (object us) = NoValueAsks us

  pub NoValueAsks : Members → Type 0
  NoValueAsks no_members = ⊤
  NoValueAsks (member k u us) = NeverAsks u × NoValueAsks us

  -- no schema in the value of `allOf` or `anyOf` does
  pub NoneInListAsks : Tree → Type 0
  NoneInListAsks (scalar s) = ⊤
  NoneInListAsks (array us) = NoElementAsks us
  NoneInListAsks (object ms) = ⊤

  pub NoElementAsks : Elements → Type 0
  NoElementAsks no_elements = ⊤
  NoElementAsks (element u us) = NeverAsks u × NoElementAsks us
