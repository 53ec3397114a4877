-- Which raw trees are JSON: strings and keys are UTF-8 (RFC 8259, section 8.1), and every decimal is narrow, which is
-- this project's own limit.
use Rattle.std.specs.Prelude.{IsUtf8}
use Rattle.json_model.specs.Decimal.{IsNarrow}
use Rattle.json_model.specs.Tree.{Scalar, null, boolean, number, string, Tree, scalar, array, object, Elements, no_elements, element, Members, no_members, member}

abbrev pub ScalarIsText : Scalar → Type 0
ScalarIsText null = Unit {0}
ScalarIsText (boolean b) = Unit {0}
ScalarIsText (number d) = Unit {0}
ScalarIsText (string s) = IsUtf8 s

abbrev pub ScalarIsNarrow : Scalar → Type 0
ScalarIsNarrow null = Unit {0}
ScalarIsNarrow (boolean b) = Unit {0}
ScalarIsNarrow (number d) = IsNarrow d
ScalarIsNarrow (string s) = Unit {0}

abbrev mutual
  -- each string and key is UTF-8
  pub IsText : Tree → Type 0
  IsText (scalar s) = ScalarIsText s
  IsText (array ts) = AreText ts
  IsText (object ms) = MembersAreText ms

  pub AreText : Elements → Type 0
  AreText no_elements = Unit {0}
  AreText (element t ts) = IsText t × AreText ts

  pub MembersAreText : Members → Type 0
  MembersAreText no_members = Unit {0}
  MembersAreText (member k t ms) = IsUtf8 k × IsText t × MembersAreText ms

abbrev mutual
  -- each decimal is narrow
  pub HasNarrow : Tree → Type 0
  HasNarrow (scalar s) = ScalarIsNarrow s
  HasNarrow (array ts) = HaveNarrow ts
  HasNarrow (object ms) = MembersHaveNarrow ms

  pub HaveNarrow : Elements → Type 0
  HaveNarrow no_elements = Unit {0}
  HaveNarrow (element t ts) = HasNarrow t × HaveNarrow ts

  pub MembersHaveNarrow : Members → Type 0
  MembersHaveNarrow no_members = Unit {0}
  MembersHaveNarrow (member k t ms) = HasNarrow t × MembersHaveNarrow ms

abbrev pub IsJson : Tree → Type 0
IsJson t = IsText t × HasNarrow t
