use Rattle.std.proofs.Common.{rules, ◌+◌, ◌-◌, ◌*◌, refl, sym, ◌∙◌, arith, inl}
use Rattle.std.specs.Str.{chars}
use Rattle.pattern_model.specs.Digits.{digits}
use Rattle.pattern_tree.proofs.NumberLemmas.{digits_on}
use Rattle.pattern_tree.proofs.number.digits.Goals as goal

pub loop-c-init : goal.loop-c-init
unfolding digits
loop-c-init c = (c.utf8.x, (0, inl (omega arith, refl), refl), omega arith)

pub loop-c-preserved : goal.loop-c-preserved
loop-c-preserved c =
    let (n, k, e) = c.loop-c.invariant.1 in (
      search rules,
      (
        10 * n + (c.in-Some.c - 48),
        c.shifted-number.ensures n k,
        sym (digits_on n c.in-Some.c (chars c.in-Some.next.now) (chars c.loop-c.after.now) c.in-Some.ensures.0
            (sym c.if-not-is_digit.ensures)) ∙ e,
      ),
      omega (arith, c.in-Some.ensures.1, c.loop-c.invariant.2),
    )
