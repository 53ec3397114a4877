use Rattle.std.proofs.Common.{◌≡◌, ◌*◌, ◌+◌, ◌-◌, ◌++◌, ◌∷◌, [], ◌≤◌, List, ℕ, suc, length, map, take, drop, sym, subst, ap, ◌∙◌, arith, rules}
use Rattle.std.specs.Prelude.{IsTrue, string_bytes}
use Rattle.std.proofs.lemmas.List.{append-nil, length-append}
use Rattle.json_model.specs.Nest.{nest, nest_elements, nest_members}
use Rattle.json_model.specs.Parts.{elements_from, members_from}
use Rattle.json_model.specs.Tree.{Tree, array, object}
use Rattle.json_exact.specs.MapIteration.{left}
use Rattle.json_exact.specs.Trees.{Pairs, tree, pairs}
use Rattle.json_exact.specs.declared.value.Value.{Value}
use Rattle.json_exact.proofs.NestLaws.{element_nests}
use Rattle.json_exact.proofs.TreeLaws.{tree-array, tree-object}
use Rattle.jsonb_layout.specs.Stands.{padding}
use Rattle.jsonb_layout.specs.declared.form.Form.TheVariants.{Array, Object}
use Rattle.jsonb_encode.specs.Encoded.{item}
use Rattle.jsonb_encode.specs.Limits.{elements_fit}
use Rattle.jsonb_encode.specs.declared.error.EncodeError.{EncodeError}
use Rattle.jsonb_encode.specs.inner.Writing.{IsOpen, IsUnwritten, IsWritten, IsWhole, AreGood, kind_number, listed, pair_keys}
use Rattle.jsonb_encode.proofs.Numbers.{wrote_number}
use Rattle.jsonb_encode.proofs.Written.{err_as, many_elements, element_large, elements_large, listed_none, listed_count, split_at, taken, taken_count, taken_all, trees_count, place_is, next_item, next_good, array_whole, fits_inside, unkeyed, begin_values, member_large, members_large, members_fit_are, pairs_next, pairs_split, pairs_count, pairs_more, done_count, keys_count, object_whole, tree-null, tree-bool, tree-string, tree-number, wrote_null, wrote_boolean, wrote_string, wrote_array, wrote_object}
use Rattle.jsonb_encode.proofs.writer.+writing.Goals as goal

-- ---- arrays

pub write_elements-returns-then-count-ge-LIMIT-clause-err : goal.write_elements-returns-then-count-ge-LIMIT-clause-err
write_elements-returns-then-count-ge-LIMIT-clause-err t c =
    many_elements c.args.form (map tree c.args.elements.now) (omega (arith, trees_count c.args.elements.now, c.if-count-ge-LIMIT.true))

pub write_elements-loop-i-init : goal.write_elements-loop-i-init
write_elements-loop-i-init t c = record {
  open_is = subst (λ xs. IsOpen Array (length c.args.elements.now) (length c.args.elements.now) xs c.args.bytes.now.items
      c.open_container.new.bytes.items)
      (sym (listed_none c.args.form [])) c.in_ok-open_container.ensures.ok;
  good = record { small = tt; rise = tt; exact = tt };
}

pub write_elements-write_value-requires : goal.write_elements-write_value-requires
write_elements-write_value-requires t c =
    let vs = c.args.elements.now in
    let v = c.index-elements-i.result in
    let i = c.loop-i.i in
    let us = map tree (take i vs) in
    let inside = subst (λ (w : Value). nest (tree w) ≤ nest_elements (elements_from (map tree vs))) (sym c.index-elements-i.is)
    (element_nests vs i v c.loop-i-test.true) in
    let split = split_at vs i v c.loop-i-test.true c.index-elements-i.is in
    let lt = c.loop-i-test.true in
    let place = place_is c.args.form [] us Array (length vs) (length vs) (c.len-start.result + 4 * length vs + 4) c.args.bytes.now.items
    c.loop-i.bytes.items
    (omega (arith, taken_count vs i (omega arith))) c.loop-i.invariant.open_is (omega (arith, c.len-start.ensures)) in (
      omega (arith, inside, c.decreases),
      (
        place.0,
        fits_inside c.args.form us (map tree (drop (suc i) vs)) (tree v)
            (subst (λ (ts : List Tree). IsTrue (elements_fit c.args.form (elements_from ts))) split c.requires.fits),
      ),
    )

pub write_elements-returns-in_err-kind-clause-err : goal.write_elements-returns-in_err-kind-clause-err
write_elements-returns-in_err-kind-clause-err t c =
    let vs = c.args.elements.now in
    let v = c.index-elements-i.result in
    let i = c.loop-i.i in
    let e = c.in_err-kind.field-0.0 in
    let split = split_at vs i v c.loop-i-test.true c.index-elements-i.is in
    err_as c.from_residual-in_err-kind.result e (λ (x : EncodeError). IsUnwritten c.args.form (array (elements_from (map tree vs))) x) (search rules)
    (subst (λ (ts : List Tree). IsUnwritten c.args.form (array (elements_from ts)) e) (sym split)
    (element_large c.args.form (map tree (take i vs)) (map tree (drop (suc i) vs)) (tree v) e c.in_err-kind.ensures.err))

pub write_elements-close_item-requires-clause-begin : goal.write_elements-close_item-requires-clause-begin
write_elements-close_item-requires-clause-begin t c =
    let vs = c.args.elements.now in
    let i = c.loop-i.i in
    let us = map tree (take i vs) in
    let lt = c.loop-i-test.true in
    let place = place_is c.args.form [] us Array (length vs) (length vs) (c.len-start.result + 4 * length vs + 4) c.args.bytes.now.items
    c.loop-i.bytes.items
    (omega (arith, taken_count vs i (omega arith))) c.loop-i.invariant.open_is (omega (arith, c.len-start.ensures)) in
    omega (arith, place.0, c.len-begin.ensures)

pub write_elements-returns-in_err-close_item-clause-err : goal.write_elements-returns-in_err-close_item-clause-err
write_elements-returns-in_err-close_item-clause-err t c =
    let vs = c.args.elements.now in
    let v = c.index-elements-i.result in
    let i = c.loop-i.i in
    let us = map tree (take i vs) in
    let f = c.args.form in
    let base = c.args.bytes.now.items in
    let mid = c.loop-i.bytes.items in
    let e = c.in_err-close_item.field-0.0 in
    let split = split_at vs i v c.loop-i-test.true c.index-elements-i.is in
    let lt = c.loop-i-test.true in
    let payload = c.len-start.result + 4 * length vs + 4 in
    let count = taken_count vs i (omega arith) in
    let place = place_is f [] us Array (length vs) (length vs) payload base mid (omega (arith, count)) c.loop-i.invariant.open_is
    (omega (arith, c.len-start.ensures)) in
    let w = c.in_ok-kind.ensures.ok in
    let told = c.in_err-close_item.ensures base mid (item f (tree v) (length mid - payload)).piece Array (length vs) (listed f [] us)
    (omega (arith, c.len-start.ensures)) (listed_count f [] us ∙ (let z : 0 + length us ≡ i = omega (arith, count) in z))
    c.loop-i.invariant.open_is (omega (arith, c.len-begin.ensures)) w.bytes in
    err_as c.from_residual-in_err-close_item.result e (λ (x : EncodeError). IsUnwritten f (array (elements_from (map tree vs))) x) (search rules)
    (subst (λ (ts : List Tree). IsUnwritten f (array (elements_from ts)) e) (sym split)
    (elements_large f us (map tree (drop (suc i) vs)) (tree v) (length mid - payload) e place.1 told.0 told.1))

pub write_elements-loop-i-preserved : goal.write_elements-loop-i-preserved
write_elements-loop-i-preserved t c =
    let vs = c.args.elements.now in
    let v = c.index-elements-i.result in
    let i = c.loop-i.i in
    let us = map tree (take i vs) in
    let f = c.args.form in
    let base = c.args.bytes.now.items in
    let mid = c.loop-i.bytes.items in
    let lt = c.loop-i-test.true in
    let n = length vs in
    let payload = c.len-start.result + 4 * n + 4 in
    let at = length mid - payload in
    let kind = kind_number c.in_ok-kind.kind in
    let count = taken_count vs i (omega arith) in
    let place = place_is f [] us Array n n payload base mid (omega (arith, count)) c.loop-i.invariant.open_is (omega (arith, c.len-start.ensures)) in
    let w = c.in_ok-kind.ensures.ok in
    let told = c.in_ok-close_item.ensures base mid (item f (tree v) at).piece Array n (listed f [] us)
    (omega (arith, c.len-start.ensures)) (listed_count f [] us ∙ (let z : 0 + length us ≡ i = omega (arith, count) in z))
    c.loop-i.invariant.open_is (omega (arith, c.len-begin.ensures)) w.bytes in
    let step = taken vs i v lt c.index-elements-i.is in
    record {
      open_is = subst (λ (ts : List Tree). IsOpen Array n n (listed f [] ts) base c.close_item.new.bytes.items) step
          (next_item f [] us (tree v) Array n n at kind base mid c.write_value.new.bytes.items c.close_item.new.bytes.items place.1 w told);
      good = subst (λ (ts : List Tree). AreGood f (elements_from ts)) step
          (next_good f us (tree v) at kind mid c.write_value.new.bytes.items c.loop-i.invariant.good w);
    }

pub write_elements-returns-clause-ok : goal.write_elements-returns-clause-ok
write_elements-returns-clause-ok t c =
    let vs = c.args.elements.now in
    let n = length vs in
    let all = taken_all vs c.loop-i.i c.loop-i-test.false in
    array_whole c.args.form (map tree vs) n c.args.bytes.now.items c.loop-i.bytes.items (trees_count vs) (omega (arith, c.if-count-ge-LIMIT.false))
    (subst (λ (ts : List Tree). IsOpen Array n n (listed c.args.form [] ts) c.args.bytes.now.items c.loop-i.bytes.items) all
    c.loop-i.invariant.open_is)
    (subst (λ (ts : List Tree). AreGood c.args.form (elements_from ts)) all c.loop-i.invariant.good)

-- ---- objects

pub write_members-returns-in_err-write_keys-clause-err : goal.write_members-returns-in_err-write_keys-clause-err
write_members-returns-in_err-write_keys-clause-err t c =
    let e = c.in_err-write_keys.field-0.0 in
    let ps = pairs c.args.members.now in
    err_as c.from_residual.result e (λ (x : EncodeError). IsUnwritten c.args.form (object (members_from ps)) x) (search rules)
    (unkeyed c.args.form ps e c.in_err-write_keys.ensures.err)

pub write_members-loop-value-init : goal.write_members-loop-value-init
write_members-loop-value-init t c =
    let ps = pairs c.args.members.now in
    let all : left c.into_iter-value-iterator.result ≡ ps = ap (λ it. left it) c.into_iter-value-iterator.ensures.into_iter_gives ∙
    c.iter-value-items.ensures.pairs in (
      [],
      record {
        parts = sym all;
        index = omega arith;
        inside = omega (arith, ap (λ (qs : Pairs). nest_members (members_from qs)) all);
        open_is = begin_values c.args.form ps c.len-count.result c.args.bytes.now.items c.write_keys.new.bytes.items c.len-count.ensures
            c.in_ok-write_keys.ensures.ok;
        good = record { small = tt; rise = tt; exact = tt };
      },
    )

pub write_members-write_value-requires : goal.write_members-write_value-requires
write_members-write_value-requires t c =
    let inv = c.loop-value.invariant in
    let ps = pairs c.args.members.now in
    let f = c.args.form in
    let n = c.len-count.result in
    let p : List ℕ × Tree = (c.in-Some.field-0-0.now, tree c.in-Some.value.now) in
    let us = map {A = List ℕ × Tree} {B = Tree} (λ p. p.1) inv.0 in
    let ws = map {A = List ℕ × Tree} {B = Tree} (λ p. p.1) (left c.next.new.self) in
    let steps = c.in-Some.ensures.steps in
    let nests = ap (λ (qs : Pairs). nest_members (members_from qs)) steps in
    let done = done_count inv.0 (left c.loop-value.value-iterator) (left c.next.new.self) ps p inv.1.parts steps in
    let split = pairs_split inv.0 (left c.loop-value.value-iterator) (left c.next.new.self) ps p inv.1.parts steps in
    let place = place_is f (pair_keys ps) us Object n (2 * n) (c.len-start.result + 8 * n + 4) c.args.bytes.now.items c.loop-value.bytes.items
    (omega (arith, keys_count ps, pairs_count inv.0, c.len-count.ensures)) inv.1.open_is (omega (arith, c.len-start.ensures)) in (
      omega (arith, nests, inv.1.inside, c.decreases),
      (
        place.0,
        fits_inside f us ws p.1 (subst (λ (ts : List Tree). IsTrue (elements_fit f (elements_from ts))) split
            (subst IsTrue (members_fit_are f ps) c.requires.fits)),
      ),
    )

pub write_members-returns-in_err-kind-clause-err : goal.write_members-returns-in_err-kind-clause-err
write_members-returns-in_err-kind-clause-err t c =
    let inv = c.loop-value.invariant in
    let ps = pairs c.args.members.now in
    let f = c.args.form in
    let p : List ℕ × Tree = (c.in-Some.field-0-0.now, tree c.in-Some.value.now) in
    let e = c.in_err-kind.field-0.0 in
    let split = pairs_split inv.0 (left c.loop-value.value-iterator) (left c.next.new.self) ps p inv.1.parts c.in-Some.ensures.steps in
    err_as c.from_residual-in_err-kind.result e (λ (x : EncodeError). IsUnwritten f (object (members_from ps)) x) (search rules)
    (member_large f ps (map (λ p. p.1) inv.0) (map (λ p. p.1) (left c.next.new.self)) p.1 e split c.in_err-kind.ensures.err)

pub write_members-close_item-requires-clause-begin : goal.write_members-close_item-requires-clause-begin
write_members-close_item-requires-clause-begin t c =
    let inv = c.loop-value.invariant in
    let ps = pairs c.args.members.now in
    let n = c.len-count.result in
    let p : List ℕ × Tree = (c.in-Some.field-0-0.now, tree c.in-Some.value.now) in
    let us = map {A = List ℕ × Tree} {B = Tree} (λ p. p.1) inv.0 in
    let done = done_count inv.0 (left c.loop-value.value-iterator) (left c.next.new.self) ps p inv.1.parts c.in-Some.ensures.steps in
    let place = place_is c.args.form (pair_keys ps) us Object n (2 * n) (c.len-start.result + 8 * n + 4) c.args.bytes.now.items
    c.loop-value.bytes.items
    (omega (arith, keys_count ps, pairs_count inv.0, c.len-count.ensures)) inv.1.open_is (omega (arith, c.len-start.ensures)) in
    omega (arith, place.0, c.len-begin.ensures)

pub write_members-returns-in_err-close_item-clause-err : goal.write_members-returns-in_err-close_item-clause-err
write_members-returns-in_err-close_item-clause-err t c =
    let inv = c.loop-value.invariant in
    let ps = pairs c.args.members.now in
    let f = c.args.form in
    let n = c.len-count.result in
    let base = c.args.bytes.now.items in
    let mid = c.loop-value.bytes.items in
    let p : List ℕ × Tree = (c.in-Some.field-0-0.now, tree c.in-Some.value.now) in
    let e = c.in_err-close_item.field-0.0 in
    let us = map {A = List ℕ × Tree} {B = Tree} (λ p. p.1) inv.0 in
    let payload = c.len-start.result + 8 * n + 4 in
    let steps = c.in-Some.ensures.steps in
    let done = done_count inv.0 (left c.loop-value.value-iterator) (left c.next.new.self) ps p inv.1.parts steps in
    let split = pairs_split inv.0 (left c.loop-value.value-iterator) (left c.next.new.self) ps p inv.1.parts steps in
    let place = place_is f (pair_keys ps) us Object n (2 * n) payload base mid
    (omega (arith, keys_count ps, pairs_count inv.0, c.len-count.ensures)) inv.1.open_is (omega (arith, c.len-start.ensures)) in
    let w = c.in_ok-kind.ensures.ok in
    let index : length (listed f (pair_keys ps) us) ≡ c.loop-value.index =
    omega (arith, listed_count f (pair_keys ps) us, keys_count ps, pairs_count inv.0, c.len-count.ensures, inv.1.index) in
    let told = c.in_err-close_item.ensures base mid (item f p.1 (length mid - payload)).piece Object n (listed f (pair_keys ps) us)
    (omega (arith, c.len-start.ensures)) index inv.1.open_is (omega (arith, c.len-begin.ensures)) w.bytes in
    err_as c.from_residual-in_err-close_item.result e (λ (x : EncodeError). IsUnwritten f (object (members_from ps)) x) (search rules)
    (members_large f ps us (map (λ p. p.1) (left c.next.new.self)) p.1 (length mid - payload) e split place.1 told.0 told.1)

pub write_members-loop-value-preserved : goal.write_members-loop-value-preserved
write_members-loop-value-preserved t c =
    let inv = c.loop-value.invariant in
    let ps = pairs c.args.members.now in
    let f = c.args.form in
    let n = c.len-count.result in
    let base = c.args.bytes.now.items in
    let mid = c.loop-value.bytes.items in
    let p : List ℕ × Tree = (c.in-Some.field-0-0.now, tree c.in-Some.value.now) in
    let us = map {A = List ℕ × Tree} {B = Tree} (λ p. p.1) inv.0 in
    let payload = c.len-start.result + 8 * n + 4 in
    let at = length mid - payload in
    let kind = kind_number c.in_ok-kind.kind in
    let steps = c.in-Some.ensures.steps in
    let nests = ap (λ (qs : Pairs). nest_members (members_from qs)) steps in
    let done = done_count inv.0 (left c.loop-value.value-iterator) (left c.next.new.self) ps p inv.1.parts steps in
    let place = place_is f (pair_keys ps) us Object n (2 * n) payload base mid
    (omega (arith, keys_count ps, pairs_count inv.0, c.len-count.ensures)) inv.1.open_is (omega (arith, c.len-start.ensures)) in
    let w = c.in_ok-kind.ensures.ok in
    let index : length (listed f (pair_keys ps) us) ≡ c.loop-value.index =
    omega (arith, listed_count f (pair_keys ps) us, keys_count ps, pairs_count inv.0, c.len-count.ensures, inv.1.index) in
    let told = c.in_ok-close_item.ensures base mid (item f p.1 at).piece Object n (listed f (pair_keys ps) us)
    (omega (arith, c.len-start.ensures)) index inv.1.open_is (omega (arith, c.len-begin.ensures)) w.bytes in
    let more = sym (pairs_more inv.0 (p ∷ [])) in (
      inv.0 ++ p ∷ [],
      record {
        parts = pairs_next inv.0 (left c.loop-value.value-iterator) (left c.next.new.self) ps p inv.1.parts steps;
        index = omega (arith, length-append inv.0 (p ∷ []), inv.1.index);
        inside = omega (arith, nests, inv.1.inside);
        open_is = subst (λ (ts : List Tree). IsOpen Object n (2 * n) (listed f (pair_keys ps) ts) base c.close_item.new.bytes.items) more
            (next_item f (pair_keys ps) us p.1 Object n (2 * n) at kind base mid c.write_value.new.bytes.items c.close_item.new.bytes.items
            place.1 w told);
        good = subst (λ (ts : List Tree). AreGood f (elements_from ts)) more
            (next_good f us p.1 at kind mid c.write_value.new.bytes.items inv.1.good w);
      },
    )

pub write_members-returns-clause-ok : goal.write_members-returns-clause-ok
write_members-returns-clause-ok t c =
    let inv = c.loop-value.invariant in
    let ps = pairs c.args.members.now in
    let f = c.args.form in
    let base = c.args.bytes.now.items in
    let mid = c.loop-value.bytes.items in
    let keyed = c.in_ok-write_keys.ensures.ok in
    let all : inv.0 ≡ ps = sym (inv.1.parts ∙ ap (λ (qs : Pairs). inv.0 ++ qs) c.in-None.ensures.steps.0 ∙ append-nil inv.0) in
    object_whole f ps base mid keyed.few keyed.rise
    (subst (λ (m : ℕ). IsOpen Object m (2 * m) (listed f (pair_keys ps) (map (λ p. p.1) ps)) base mid) c.len-count.ensures
    (subst (λ (qs : Pairs). IsOpen Object c.len-count.result (2 * c.len-count.result) (listed f (pair_keys ps) (map (λ p. p.1) qs)) base
    mid) all inv.1.open_is))
    (subst (λ (qs : Pairs). AreGood f (elements_from (map (λ p. p.1) qs))) all inv.1.good)

-- ---- one value

padded : (payload n : ℕ) (before mid : List ℕ) → n ≡ length before → mid ≡ before ++ padding (n - payload) → mid ≡ before ++ padding
    (length before - payload)
padded payload n before mid e h = h ∙ ap (λ (k : ℕ). before ++ padding (k - payload)) e

pub write_value-returns-in-Null-clause-ok : goal.write_value-returns-in-Null-clause-ok
write_value-returns-in-Null-clause-ok t c =
    let b = c.args.bytes.now.items in
    subst (λ (u : Tree). IsWritten c.args.form u (length b - c.args.payload) b b 4) (sym (ap tree c.in-Null.is ∙ tree-null))
    (wrote_null c.args.form (length b - c.args.payload) b)

pub write_value-returns-in-Bool-clause-ok : goal.write_value-returns-in-Bool-clause-ok
write_value-returns-in-Bool-clause-ok t c =
    let b = c.args.bytes.now.items in
    subst (λ (u : Tree). IsWritten c.args.form u (length b - c.args.payload) b b (kind_number c.of_boolean.result))
    (sym (ap tree c.in-Bool.is ∙ tree-bool c.in-Bool.truth))
    (wrote_boolean c.args.form c.in-Bool.truth (length b - c.args.payload) (kind_number c.of_boolean.result) b c.of_boolean.ensures)

pub write_value-returns-in_ok-push_all-in-String-clause-ok : goal.write_value-returns-in_ok-push_all-in-String-clause-ok
write_value-returns-in_ok-push_all-in-String-clause-ok t c =
    let b = c.args.bytes.now.items in
    let after = c.push_all.new.bytes.items in
    let text = c.as_bytes.ensures.value ∙ c.as_str.ensures.value in
    subst (λ (u : Tree). IsWritten c.args.form u (length b - c.args.payload) b after 0) (sym (ap tree c.in-String.is ∙ tree-string c.in-String.text))
    (wrote_string c.args.form (string_bytes c.in-String.text) (length b - c.args.payload) b after
    (c.in_ok-push_all-in-String.ensures.ok ∙ ap (λ (xs : List ℕ). b ++ xs) text))

pub write_value-returns-in_ok-write_number-in-Number-clause-ok : goal.write_value-returns-in_ok-write_number-in-Number-clause-ok
write_value-returns-in_ok-write_number-in-Number-clause-ok t c =
    let b = c.args.bytes.now.items in
    let w = c.in_ok-write_number-in-Number.ensures in
    let mid = padded c.args.payload c.len.result b c.push_padding.new.bytes.items (omega (arith, c.len.ensures))
    c.in_ok-push_padding-in-Number.ensures.ok in
    subst (λ (u : Tree). IsWritten c.args.form u (length b - c.args.payload) b c.write_number.new.bytes.items 1)
    (sym (ap tree c.in-Number.is ∙ tree-number c.in-Number.number))
    (wrote_number c.args.form c.in-Number.number (length b - c.args.payload) b c.push_padding.new.bytes.items
    c.write_number.new.bytes.items mid w.ok w.exact)

pub write_value-returns-in_ok-write_elements-in-Array-clause-ok : goal.write_value-returns-in_ok-write_elements-in-Array-clause-ok
write_value-returns-in_ok-write_elements-in-Array-clause-ok t c =
    let b = c.args.bytes.now.items in
    let v = c.in-Array.elements in
    let mid = padded c.args.payload c.len-in-Array.result b c.push_padding-in-Array.new.bytes.items (omega (arith, c.len-in-Array.ensures))
    c.in_ok-push_padding-in-Array.ensures.ok in
    subst (λ (u : Tree). IsWritten c.args.form u (length b - c.args.payload) b c.write_elements.new.bytes.items 5)
    (sym (ap tree c.in-Array.is ∙ tree-array v))
    (wrote_array c.args.form (elements_from (map tree v.items)) (length b - c.args.payload) b c.push_padding-in-Array.new.bytes.items
    c.write_elements.new.bytes.items mid
    (subst (λ (vs : List Value). IsWhole c.args.form (array (elements_from (map tree vs))) c.push_padding-in-Array.new.bytes.items
    c.write_elements.new.bytes.items)
    c.as_slice.ensures.value c.in_ok-write_elements-in-Array.ensures.ok))

pub write_value-returns-in_ok-write_members-in-Object-clause-ok : goal.write_value-returns-in_ok-write_members-in-Object-clause-ok
write_value-returns-in_ok-write_members-in-Object-clause-ok t c =
    let b = c.args.bytes.now.items in
    let m = c.in-Object.members in
    let mid = padded c.args.payload c.len-in-Object.result b c.push_padding-in-Object.new.bytes.items
    (omega (arith, c.len-in-Object.ensures)) c.in_ok-push_padding-in-Object.ensures.ok in
    subst (λ (u : Tree). IsWritten c.args.form u (length b - c.args.payload) b c.write_members.new.bytes.items 5)
    (sym (ap tree c.in-Object.is ∙ tree-object m))
    (wrote_object c.args.form (members_from (pairs m)) (length b - c.args.payload) b c.push_padding-in-Object.new.bytes.items
    c.write_members.new.bytes.items mid
    c.in_ok-write_members-in-Object.ensures.ok)
