use Rattle.std.proofs.Common.{◌≡◌, ℕ, Some, refl, sym, ◌∙◌}
use Rattle.std.proofs.lemmas.Bool.{false≢true}
use Rattle.std.specs.Prelude.{Result, Ok, Err, OnOk, IfErr}
use Rattle.flat_keywords.proofs.Compiling.{Pair, added, not_narrow, refused}
use Rattle.flat_keywords.specs.Compiled.{IsFaultBy}
use Rattle.flat_keywords.specs.Names.{keyword_by}
use Rattle.flat_keywords.specs.Validity.{IsNarrowBy}
use Rattle.flat_keywords.specs.inner.Passes.{AddFault, Adds, Took}
use Rattle.flat_keywords.specs.declared.checks.Checks.{Checks}
use Rattle.flat_keywords.specs.declared.draft.Reading.{Reading}
use Rattle.flat_keywords.specs.declared.errors.KeywordError.{KeywordError}
use Rattle.flat_keywords.specs.declared.keyword.Keyword.{Keyword}
use Rattle.flat_keywords.proofs.checks.Checks.take_member.Goals as goal

module _ {A : Type 0} (r : Reading) (old new : Checks) (w : Keyword) (p : Pair) (m : ℕ) (named : keyword_by r p.0 ≡ Some w)
    (narrow : IsNarrowBy r w p.1) where
  -- a keyword that was added is the member's
  ok_took : (x : Result A KeywordError) → OnOk x (Adds old w p.1 new) → OnOk x (Took r old p new)
  ok_took (Ok a) h = added r old new w p named narrow h
  ok_took (Err e) h = h

  -- and so is a fault of its value
  err_fault : (x : Result A KeywordError) → IfErr x (AddFault m w p.1) → IfErr x (IsFaultBy r m p)
  err_fault (Ok a) h = h
  err_fault (Err e) h = refused r m w p e named narrow h

pub returns-in-Ok-true-clause-ok : goal.returns-in-Ok-true-clause-ok
returns-in-Ok-true-clause-ok g c =
    ok_took c.args.reading c.args.self.now c.add.new.self c.in-Some.keyword (c.args.name.now, g.N.HasTree.tree c.args.value.now) c.args.member
    (sym c.in-Some.ensures) (c.in-Ok-true.ensures.right.0 c.in-Ok-true.field-0-test) c.add.result c.add.ensures.ok

pub returns-in-Ok-true-clause-err : goal.returns-in-Ok-true-clause-err
returns-in-Ok-true-clause-err g c =
    err_fault c.args.reading c.args.self.now c.add.new.self c.in-Some.keyword (c.args.name.now, g.N.HasTree.tree c.args.value.now) c.args.member
    (sym c.in-Some.ensures) (c.in-Ok-true.ensures.right.0 c.in-Ok-true.field-0-test) c.add.result c.add.ensures.err

pub returns-in-Ok-false-clause-err : goal.returns-in-Ok-false-clause-err
returns-in-Ok-false-clause-err g c = (
  refl,
  not_narrow c.args.reading c.in-Some.keyword (c.args.name.now, g.N.HasTree.tree c.args.value.now) (sym c.in-Some.ensures)
      (λ narrow. false≢true (sym c.in-Ok-false.field-0-test ∙ c.in-Ok-false.ensures.right.1 narrow)),
)
