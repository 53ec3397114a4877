use Rattle.std.proofs.Common.{◌≡◌, Bool, true, Some, sym, subst}
use Rattle.std.specs.Prelude.{Result, Ok, Err, ◌↔◌, IsTrue, IfOk, IfSome, Option, List}
use Rattle.json_exact.specs.declared.out_of_memory.OutOfMemory.{OutOfMemory}
use Rattle.json_model.proofs.KindLaws.{array_some}
use Rattle.json_model.specs.Parts.{elements_of, if_array}
use Rattle.json_model.specs.Same.{IsUnique}
use Rattle.json_model.specs.Tree.{Tree}
use Rattle.flat_keywords.specs.inner.Passes.{MeetsUnique}
use Rattle.flat_keywords.proofs.meets.meets_unique.Goals as goal

-- an array meets what is asked where its elements are unique
array_meets : (unique : Bool) (t a : Tree) (r : Result Bool OutOfMemory) → unique ≡ true → Some a ≡ if_array t
    → IfOk r (λ b. IsTrue b ↔ IsUnique (elements_of a)) → IfOk r (λ b. IsTrue b ↔ MeetsUnique unique t)
array_meets unique t a (Err e) asked is h = h
array_meets unique t a (Ok b) asked is h =
    let there = array_some t is in (
      λ told asks. subst (λ (o : Option (List Tree)). IfSome o IsUnique) (sym there) (h.0 told),
      λ met. h.1 (subst (λ (o : Option (List Tree)). IfSome o IsUnique) there (met asked)),
    )

pub returns-in-Some-clause-right : goal.returns-in-Some-clause-right
returns-in-Some-clause-right g c =
    array_meets c.args.unique (g.N.HasTree.tree c.args.node.now) (g.N.Array.HasTree.tree c.in-Some.array) c.is_unique.result
    (let n = c.if-not-unique.false in cc) c.in-Some.ensures c.is_unique.ensures
