use Rattle.std.proofs.Common.{◌≡◌, ◌*◌, ◌++◌, ◌∷◌, [], List, ℕ, sym, subst, ap, ◌∙◌, arith, inr, rules}
use Rattle.std.proofs.lemmas.List.{append-nil, length-append}
use Rattle.json_model.specs.Tree.{Tree}
use Rattle.json_exact.specs.MapIteration.{left}
use Rattle.json_exact.specs.Trees.{Pairs, tree, pairs}
use Rattle.jsonb_layout.specs.declared.form.Form.TheVariants.{Object}
use Rattle.jsonb_encode.specs.inner.Writing.{IsOpen, IsUnkeyed, pair_keys}
use Rattle.jsonb_encode.proofs.Opened.{open_length}
use Rattle.jsonb_encode.proofs.Written.{err_as, keys_count, key_last, keys_long, pairs_next, done_count}
use Rattle.jsonb_encode.proofs.writer.write_keys.Goals as goal

pub close_item-requires-clause-begin : goal.close_item-requires-clause-begin
close_item-requires-clause-begin c =
    let inv = c.loop-name.invariant in
    let n = c.len-count.result in
    let p : List ℕ × Tree = (c.in-Some.name.now, tree c.in-Some.field-0-1.now) in
    let d = done_count inv.0 (left c.loop-name.name-iterator) (left c.next.new.self) (pairs c.args.members.now) p inv.1.parts
    c.in-Some.ensures.steps in
    let l = open_length Object n (2 * n) (pair_keys inv.0) c.args.bytes.now.items c.loop-name.bytes.items
    (omega (arith, keys_count inv.0, c.len-count.ensures)) inv.1.open_is in
    omega (arith, c.len-begin.ensures, c.len-start.ensures)

pub returns-in_err-close_item-clause-err : goal.returns-in_err-close_item-clause-err
returns-in_err-close_item-clause-err c =
    let inv = c.loop-name.invariant in
    let n = c.len-count.result in
    let p : List ℕ × Tree = (c.in-Some.name.now, tree c.in-Some.field-0-1.now) in
    let piece = c.as_bytes.result.now in
    let e = c.in_err-close_item.field-0.0 in
    let told = c.in_err-close_item.ensures c.args.bytes.now.items c.loop-name.bytes.items piece Object n (pair_keys inv.0)
    (omega (arith, c.len-start.ensures)) (keys_count inv.0 ∙ sym inv.1.index) inv.1.open_is (omega (arith, c.len-begin.ensures))
    c.in_ok-push_all.ensures.ok in
    err_as c.from_residual-in_err-close_item.result e (λ x. IsUnkeyed (pairs c.args.members.now) x) (search rules)
    (inr (
      told.0,
      inr (keys_long inv.0 (left c.next.new.self) (pairs c.args.members.now) p piece
          (inv.1.parts ∙ ap (λ (qs : Pairs). inv.0 ++ qs) c.in-Some.ensures.steps) c.as_bytes.ensures.value told.1),
    ))

pub loop-name-preserved : goal.loop-name-preserved
loop-name-preserved c =
    let inv = c.loop-name.invariant in
    let n = c.len-count.result in
    let p : List ℕ × Tree = (c.in-Some.name.now, tree c.in-Some.field-0-1.now) in
    let piece = c.as_bytes.result.now in
    let next = c.in_ok-close_item.ensures c.args.bytes.now.items c.loop-name.bytes.items piece Object n (pair_keys inv.0)
    (omega (arith, c.len-start.ensures)) (keys_count inv.0 ∙ sym inv.1.index) inv.1.open_is (omega (arith, c.len-begin.ensures))
    c.in_ok-push_all.ensures.ok in (
      inv.0 ++ p ∷ [],
      record {
        parts = pairs_next inv.0 (left c.loop-name.name-iterator) (left c.next.new.self) (pairs c.args.members.now) p inv.1.parts
            c.in-Some.ensures.steps;
        index = omega (arith, length-append inv.0 (p ∷ []), inv.1.index);
        open_is = key_last inv.0 p n (2 * n) c.args.bytes.now.items c.close_item.new.bytes.items piece c.as_bytes.ensures.value next;
      },
    )

pub returns-clause-ok : goal.returns-clause-ok
returns-clause-ok c =
    let inv = c.loop-name.invariant in
    let ps = pairs c.args.members.now in
    let all : inv.0 ≡ ps = sym (inv.1.parts ∙ ap (λ (qs : Pairs). inv.0 ++ qs) c.in-None.ensures.steps.0 ∙ append-nil inv.0) in
    record {
      open_is = subst (λ (m : ℕ). IsOpen Object m (2 * m) (pair_keys ps) c.args.bytes.now.items c.loop-name.bytes.items) c.len-count.ensures
          (subst (λ (qs : Pairs). IsOpen Object c.len-count.result (2 * c.len-count.result) (pair_keys qs) c.args.bytes.now.items
          c.loop-name.bytes.items) all inv.1.open_is);
      few = omega (arith, c.len-count.ensures, c.if-count-ge-LIMIT.false);
      rise = c.iter-name-items.ensures.rise;
    }
