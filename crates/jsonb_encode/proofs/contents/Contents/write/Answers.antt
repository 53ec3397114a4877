use Rattle.std.proofs.Common.{◌+◌, ◌-◌, ◌*◌, ◌≤◌, ◌++◌, ℕ, List, length, take, ap, subst, ◌∙◌, arith, inl, inr, rules, refl}
use Rattle.std.proofs.lemmas.List.{length-append}
use Rattle.jsonb_encode.specs.Encoded.{container}
use Rattle.jsonb_encode.specs.inner.Contents.{Placed, placed, shape_of}
use Rattle.jsonb_encode.specs.inner.Writing.{IsOpen, kind_number}
use Rattle.jsonb_encode.proofs.ContentsLaws.{some_at, next_placed, not_smaller, place_at, placed_length, taken_length, all_taken, contents_length, items_few, err_told_as}
use Rattle.jsonb_encode.proofs.Opened.{opened_whole}
use Rattle.jsonb_encode.proofs.contents.Contents.write.Goals as goal

pub returns-then-count-ge-LIMIT : goal.returns-then-count-ge-LIMIT
returns-then-count-ge-LIMIT c = λ gs are. inr (refl, λ small. let k = small.0 in omega (arith, c.count-count.ensures, c.if-count-ge-LIMIT.true))

pub write_item-requires-clause-payload : goal.write_item-requires-clause-payload
write_item-requires-clause-payload c =
    let (gs, are) = c.requires in
    let n = c.items-items.result in
    let length_is = contents_length c.args.form c.args.self.now gs are in
    let p = place_at gs c.loop-index.index n (shape_of c.args.self.now) c.count-count.result
    (c.len-start.result + 4 * n + 4) c.args.bytes.now.items c.loop-index.bytes.items
    (omega (arith, c.items-items.ensures, c.loop-index-test.true)) (omega (arith, c.loop-index-test.true)) (c.loop-index.invariant gs are)
    (omega (arith, c.len-start.ensures)) in
    p.0

pub write_item-requires-clause-few : goal.write_item-requires-clause-few
write_item-requires-clause-few c =
    omega (arith, items_few c.args.self.now, c.items-items.ensures, c.count-count.ensures, c.if-count-ge-LIMIT.false, c.loop-index-test.true)

pub returns-in_err-kind : goal.returns-in_err-kind
returns-in_err-kind c = λ gs are.
    let e = c.in_err-kind.field-0.0 in
    let length_is = contents_length c.args.form c.args.self.now gs are in
    let (g, at) = some_at c.loop-index.index gs (omega (arith, c.items-items.ensures, c.loop-index-test.true)) in
    err_told_as c.from_residual-in_err-kind.result e _ _ (search rules) (inl (c.in_err-kind.ensures gs g are at))

pub close_item-requires-clause-begin : goal.close_item-requires-clause-begin
close_item-requires-clause-begin c =
    let (gs, are) = c.requires in
    let n = c.items-items.result in
    let length_is = contents_length c.args.form c.args.self.now gs are in
    let p = place_at gs c.loop-index.index n (shape_of c.args.self.now) c.count-count.result
    (c.len-start.result + 4 * n + 4) c.args.bytes.now.items c.loop-index.bytes.items
    (omega (arith, c.items-items.ensures, c.loop-index-test.true)) (omega (arith, c.loop-index-test.true)) (c.loop-index.invariant gs are)
    (omega (arith, c.len-start.ensures)) in
    omega (arith, p.0, c.len-begin.ensures)

pub close_item-requires-clause-end : goal.close_item-requires-clause-end
close_item-requires-clause-end c =
    let (gs, are) = c.requires in
    let length_is = contents_length c.args.form c.args.self.now gs are in
    let (g, at) = some_at c.loop-index.index gs (omega (arith, c.items-items.ensures, c.loop-index-test.true)) in
    let w = c.in_ok-kind.ensures gs g are at in
    let mid = c.loop-index.bytes.items in
    omega (
      arith,
      ap length w.bytes,
      length-append mid (g (length mid -
          (c.len-start.result + 4 * c.items-items.result + 4))).piece,
      c.len-begin.ensures,
    )

pub returns-in_err-close_item : goal.returns-in_err-close_item
returns-in_err-close_item c = λ gs are.
    let e = c.in_err-close_item.field-0.0 in
    let i = c.loop-index.index in
    let n = c.items-items.result in
    let base = c.args.bytes.now.items in
    let mid = c.loop-index.bytes.items in
    let payload = c.len-start.result + 4 * n + 4 in
    let f = shape_of c.args.self.now in
    let m = c.count-count.result in
    let length_is = contents_length c.args.form c.args.self.now gs are in
    let le : i ≤ length gs = omega (arith, c.items-items.ensures, c.loop-index-test.true) in
    let (g, at) = some_at i gs (omega (arith, c.items-items.ensures, c.loop-index-test.true)) in
    let w = c.in_ok-kind.ensures gs g are at in
    let open_is = c.loop-index.invariant gs are in
    let p = place_at gs i n f m payload base mid le (omega (arith, c.loop-index-test.true)) open_is (omega (arith, c.len-start.ensures)) in
    let told = c.in_err-close_item.ensures base mid (g (length mid - payload)).piece f m (placed (take i gs) 0) (omega (arith, c.len-start.ensures))
    (placed_length (take i gs) 0 ∙ taken_length i gs le) open_is (omega (arith, c.len-begin.ensures)) w.bytes in
    let all = not_smaller i gs g 0 (length mid - payload) at (omega (arith, p.1)) in
    err_told_as c.from_residual-in_err-close_item.result e _ _ (search rules)
    (inr (told.0, λ small. let s = small.1 in let t = told.1 in omega arith))

pub loop-index-preserved : goal.loop-index-preserved
loop-index-preserved c = λ gs are.
    let i = c.loop-index.index in
    let n = c.items-items.result in
    let base = c.args.bytes.now.items in
    let mid = c.loop-index.bytes.items in
    let payload = c.len-start.result + 4 * n + 4 in
    let f = shape_of c.args.self.now in
    let m = c.count-count.result in
    let length_is = contents_length c.args.form c.args.self.now gs are in
    let le : i ≤ length gs = omega (arith, c.items-items.ensures, c.loop-index-test.true) in
    let (g, at) = some_at i gs (omega (arith, c.items-items.ensures, c.loop-index-test.true)) in
    let w = c.in_ok-kind.ensures gs g are at in
    let open_is = c.loop-index.invariant gs are in
    let p = place_at gs i n f m payload base mid le (omega (arith, c.loop-index-test.true)) open_is (omega (arith, c.len-start.ensures)) in
    let told = c.in_ok-close_item.ensures base mid (g (length mid - payload)).piece f m (placed (take i gs) 0) (omega (arith, c.len-start.ensures))
    (placed_length (take i gs) 0 ∙ taken_length i gs le) open_is (omega (arith, c.len-begin.ensures)) w.bytes in
    next_placed gs i g f m n (length mid - payload) (kind_number c.in_ok-kind.kind) base c.close_item.new.bytes.items at p.1 w.kind_is told

pub returns : goal.returns
returns c = λ gs are.
    let n = c.items-items.result in
    let m = c.count-count.result in
    let base = c.args.bytes.now.items in
    let f = shape_of c.args.self.now in
    let length_is = contents_length c.args.form c.args.self.now gs are in
    let open_is = subst (λ (hs : List Placed). IsOpen f m n (placed hs 0) base c.loop-index.bytes.items)
    (all_taken c.loop-index.index gs (omega (arith, c.items-items.ensures, c.loop-index-test.false, c.loop-index.auto.index-end)))
    (c.loop-index.invariant gs are) in
    record {
      bytes = open_is.bytes
          ∙ ap (λ (xs : List ℕ). base ++ xs) (opened_whole f m n (placed gs 0) (omega (arith, placed_length gs 0, c.items-items.ensures))
          ∙ ap (λ (k : ℕ). container f k (placed gs 0)) c.count-count.ensures);
      small = (omega (arith, c.count-count.ensures, c.if-count-ge-LIMIT.false), open_is.small);
    }
