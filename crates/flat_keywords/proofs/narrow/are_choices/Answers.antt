use Rattle.std.proofs.Common.{arith, ◌≡◌, ◌<◌, Bool, Some, length}
use Rattle.std.specs.Prelude.{Result, Ok, Err, ◌↔◌, IsTrue, IfOk, IsSomeAnd}
use Rattle.json_exact.specs.declared.out_of_memory.OutOfMemory.{OutOfMemory}
use Rattle.json_model.proofs.KindLaws.{array_some}
use Rattle.json_model.specs.Parts.{as_array, elements_of, if_array}
use Rattle.json_model.specs.Same.{IsUnique}
use Rattle.json_model.specs.Tree.{Tree}
use Rattle.flat_keywords.specs.Draft4.{AreChoices}
use Rattle.flat_keywords.proofs.narrow.are_choices.Goals as goal

-- a filled array is one of choices where its elements are unique
choices : (t a : Tree) (r : Result Bool OutOfMemory) → 0 < length (elements_of a) → Some a ≡ if_array t
    → IfOk r (λ b. IsTrue b ↔ IsUnique (elements_of a)) → IfOk r (λ b. IsTrue b ↔ IsSomeAnd (as_array t) AreChoices)
choices t a (Err e) filled is h = h
choices t a (Ok b) filled is h = rw (array_some t is) (λ told. (filled, h.0 told), λ met. h.1 met.1)

pub returns-clause-right : goal.returns-clause-right
returns-clause-right g c =
    choices (g.N.HasTree.tree c.args.value.now) (g.N.Array.HasTree.tree c.in-Some.list) c.is_unique.result
    (let n = c.if-len-eq0.false in let l = c.len.ensures in omega arith) c.in-Some.ensures c.is_unique.ensures
