use Rattle.std.proofs.Common.{◌≡◌, ◌-◌, ◌^◌, ◌≤◌, [], ℕ, length, subst, arith, inr, refl}
use Rattle.std.proofs.lemmas.Result.{MatchResult-weaker}
use Rattle.json_exact.specs.Trees.{tree}
use Rattle.jsonb_layout.specs.declared.form.Form.TheVariants.{Lone}
use Rattle.jsonb_encode.specs.Encoded.{item}
use Rattle.jsonb_encode.specs.inner.Writing.{kind_number}
use Rattle.jsonb_encode.proofs.Opened.{open_length}
use Rattle.jsonb_encode.proofs.Roots.{lone_is}
use Rattle.jsonb_encode.proofs.writer.write_lone.Goals as goal

pub close_item-requires-clause-begin : goal.close_item-requires-clause-begin
close_item-requires-clause-begin c =
    let l = open_length Lone 1 1 [] c.args.bytes.now.items c.open_container.new.bytes.items (omega arith) c.in_ok-open_container.ensures.ok in
    omega (arith, c.len-start.ensures, c.len-begin.ensures)

pub returns-clause-ok : goal.returns-clause-ok
returns-clause-ok c =
    let base = c.args.bytes.now.items in
    let mid = c.open_container.new.bytes.items in
    let t = tree c.args.value.now in
    let w = c.in_ok-kind.ensures.ok in
    let at = length mid - c.len-begin.result in
    let z : at ≡ 0 = omega (arith, c.len-begin.ensures) in
    let told = c.close_item.ensures base mid (item c.args.form t at).piece Lone 1 [] (omega (arith, c.len-start.ensures)) refl
    c.in_ok-open_container.ensures.ok
    (omega (arith, c.len-begin.ensures)) w.bytes in
    MatchResult-weaker c.close_item.result told
    (λ _ k. lone_is c.args.form t at (kind_number c.in_ok-kind.kind) base mid c.write_value.new.bytes.items c.close_item.new.bytes.items z
    w k) (λ _ _. tt)

pub returns-clause-err : goal.returns-clause-err
returns-clause-err c =
    let base = c.args.bytes.now.items in
    let mid = c.open_container.new.bytes.items in
    let t = tree c.args.value.now in
    let w = c.in_ok-kind.ensures.ok in
    let at = length mid - c.len-begin.result in
    let z : at ≡ 0 = omega (arith, c.len-begin.ensures) in
    let told = c.close_item.ensures base mid (item c.args.form t at).piece Lone 1 [] (omega (arith, c.len-start.ensures)) refl
    c.in_ok-open_container.ensures.ok
    (omega (arith, c.len-begin.ensures)) w.bytes in
    MatchResult-weaker c.close_item.result told (λ _ _. tt)
    (λ e k. inr (k.0, subst (λ (n : ℕ). 2 ^ 28 ≤ length (item c.args.form t n).piece) z (omega (arith, k.1))))
