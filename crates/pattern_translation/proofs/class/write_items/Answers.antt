use Rattle.std.proofs.Common.{rules, ◌≡◌, ◌<◌, [], None, length, refl, sym, subst, arith, IfSome, IfNone, true}
use Rattle.std.specs.Prelude.{string_bytes}
use Rattle.std.specs.Str.{chars}
use Rattle.std.proofs.lemmas.Str.{chars-nil}
use Rattle.pattern_model.specs.Classes.{class_part}
use Rattle.rust_pattern_model.specs.Translation.{WritesItems}
use Rattle.pattern_translation.specs.inner.Adding.{AddsPart}
use Rattle.pattern_translation.proofs.CopyLaws.{adds_nothing}
use Rattle.pattern_translation.proofs.ClassWriting.{no_items, part_added, items_done}
use Rattle.pattern_translation.proofs.class.write_items.Goals as goal

pub loop-before-init : goal.loop-before-init
loop-before-init c = (
  c.utf8.text,
  ([], (refl, refl)),
  omega arith,
  λ items y e. (items, [], e, adds_nothing _, λ u w. subst (λ b. WritesItems b (chars c.args.text.now) y u) chars-nil w),
)

pub returns-in_default-clause-items : goal.returns-in_default-clause-items
returns-in_default-clause-items c = λ items y e.
    let (more, w, f, g, k) = c.loop-before.invariant.3 items y e in
    absurd (no_items (chars c.loop-before.left.now) more y (sym c.loop-before-test.ensures)
    (subst (λ o. IfNone o (class_part true (chars c.loop-before.left.now) ≡ None)) c.in_default.is c.in_ok-last.ensures.none) f)

pub loop-before-preserved : goal.loop-before-preserved
loop-before-preserved c =
    let part = subst (λ o. IfSome o (λ p. AddsPart (string_bytes c.loop-before.out) (string_bytes c.write_part.new.out)
    (chars c.loop-before.before.now) (chars c.loop-before.left.now) (chars p.0.now) (chars p.1.now))) c.in-Some.is c.in_ok-last.ensures.part in
    let len = subst (λ o. IfSome o (λ p. length p.1.now < length c.loop-before.left.now)) c.in-Some.is c.in_ok-last.ensures.len in (
      search rules,
      search rules,
      omega (arith, len, c.loop-before.invariant.2),
      λ items y e.
          let (more, w, f, g, k) = c.loop-before.invariant.3 items y e in
          part_added (chars c.loop-before.before.now) (chars c.loop-before.left.now) (chars c.in-Some.last.now) (chars c.in-Some.end.now) more
          y w _ _ _ (λ v. WritesItems [] (chars c.args.text.now) y v) (sym c.loop-before-test.ensures) part f g k,
    )

pub returns-clause-items : goal.returns-clause-items
returns-clause-items c = λ items y e.
    let (more, w, f, g, k) = c.loop-before.invariant.3 items y e in
    items_done (chars c.loop-before.before.now) (chars c.loop-before.left.now) more y w _ _
    (λ v. WritesItems [] (chars c.args.text.now) y v) (sym c.loop-before-test.ensures) f g k
