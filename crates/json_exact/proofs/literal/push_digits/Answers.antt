use Rattle.std.proofs.Common.{rules, ℕ, ◌+◌, ◌*◌, ◌^◌, ◌≡◌, take, List, sym, ap, subst, ◌∙◌, arith}
use Rattle.json_exact.specs.Literal.{number}
use Rattle.json_exact.specs.inner.Reading.{digit_count}
use Rattle.json_exact.specs.inner.SignificantDigits.{Holds}
use Rattle.json_exact.specs.declared.significant_digits.SignificantDigits.{SignificantDigits}
use Rattle.json_exact.proofs.GroupLaws.{after}
use Rattle.json_exact.proofs.DigitTextLaws.{values, count_none, count_empty, front_after}
use Rattle.json_exact.proofs.literal.push_digits.Goals as goal

-- where no digit is left, all that stand at the front are held
all_held : (s : SignificantDigits) (m n count : ℕ) (rest bytes : List ℕ) → digit_count rest ≡ 0 → digit_count bytes ≡ count + digit_count rest
    → Holds s m
    → after 10 m (values (take (digit_count rest) rest)) ≡ after 10 n (values (take (digit_count bytes) bytes))
    → Holds s (n * 10 ^ count + number (take count bytes))
all_held s m n count rest bytes none counted h e =
    let k : count ≡ digit_count bytes = omega arith in
    subst (λ (x : ℕ). Holds s x) (sym (ap (λ (i : ℕ). after 10 m (values (take i rest))) none) ∙ e ∙ front_after n count bytes k) h

pub returns-then-not-is_ascii_digit-clause-holds : goal.returns-then-not-is_ascii_digit-clause-holds
returns-then-not-is_ascii_digit-clause-holds c = λ n held.
    let (m, h, e) = c.loop-rest.invariant.held n held in
    all_held c.loop-rest.digits m n _ c.loop-rest.rest.now c.args.bytes.now
    (count_none c.loop-rest.rest.now (search rules)) c.loop-rest.invariant.counted h e

pub returns-clause-holds : goal.returns-clause-holds
returns-clause-holds c = λ n held.
    let (m, h, e) = c.loop-rest.invariant.held n held in
    all_held c.loop-rest.digits m n _ c.loop-rest.rest.now c.args.bytes.now
    (count_empty c.loop-rest.rest.now (search rules)) c.loop-rest.invariant.counted h e
