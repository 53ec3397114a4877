use Rattle.std.proofs.Common.{◌-◌, ℕ, List, length, subst, sym, ap, ◌∙◌}
use Rattle.jsonb_encode.specs.Children.{child_item}
use Rattle.jsonb_encode.specs.Literals.{IsNumeral}
use Rattle.jsonb_encode.specs.inner.Contents.{Placed, numeral_item, key_at, IsAt, AreOf}
use Rattle.jsonb_encode.specs.declared.contents.Contents.{Contents}
use Rattle.jsonb_encode.proofs.ContentsLaws.{told_as, numeral_at, mapped_at, at_first}
use Rattle.jsonb_encode.proofs.contents.Contents.write_item.Goals as goal

pub returns-in-Numerals : goal.returns-in-Numerals
returns-in-Numerals c = λ gs g are at.
    let base = c.args.bytes.now.items in
    let (ws, h, e) = subst (λ (x : Contents). AreOf c.args.form x gs) c.in-Numerals.is are in
    let (w, k, same) = numeral_at c.args.form c.in-Numerals.texts.now ws c.args.index c.index-texts-index.result g h
    (subst (λ (xs : List Placed). IsAt c.args.index xs g) e at) in
    told_as c.write_numeral-in-Numerals.result (numeral_item c.args.form w) g
    (length base - c.args.payload) base c.write_numeral-in-Numerals.new.bytes.items same
    (c.write_numeral-in-Numerals.ensures w
    (subst (λ (t : List ℕ). IsNumeral c.args.form t w) (sym c.as_str.ensures.value) k))

pub returns-in-Containers : goal.returns-in-Containers
returns-in-Containers c = λ gs g are at.
    let base = c.args.bytes.now.items in
    let e = subst (λ (x : Contents). AreOf c.args.form x gs) c.in-Containers.is are in
    told_as c.write_child.result (child_item c.as_slice.result.now) g (length base - c.args.payload) base c.write_child.new.bytes.items
    (ap (λ (xs : List ℕ). child_item xs) c.as_slice.ensures.value
    ∙ mapped_at _ c.in-Containers.children.now c.args.index c.index-children-index.result g
    (subst (λ (xs : List Placed). IsAt c.args.index xs g) e at))
    c.write_child.ensures

pub returns-then-index-eq0 : goal.returns-then-index-eq0
returns-then-index-eq0 c = λ gs g are at.
    let base = c.args.bytes.now.items in
    let (w, h, e) = subst (λ (x : Contents). AreOf c.args.form x gs) c.in-KeyAndNumeral.is are in
    told_as c.write_key.result (key_at c.in-KeyAndNumeral.key.now) g (length base - c.args.payload) base c.write_key.new.bytes.items
    (at_first gs _ (key_at c.in-KeyAndNumeral.key.now) g c.args.index e c.if-index-eq0.true at) (c.write_key.ensures (length base - c.args.payload))

pub returns-then-index-eq0-2 : goal.returns-then-index-eq0-2
returns-then-index-eq0-2 c = λ gs g are at.
    let base = c.args.bytes.now.items in
    let e = subst (λ (x : Contents). AreOf c.args.form x gs) c.in-KeyAndNull.is are in
    told_as c.write_key-then-index-eq0-2.result (key_at c.in-KeyAndNull.key.now) g
    (length base - c.args.payload) base c.write_key-then-index-eq0-2.new.bytes.items
    (at_first gs _ (key_at c.in-KeyAndNull.key.now) g c.args.index e c.if-index-eq0-2.true at)
    (c.write_key-then-index-eq0-2.ensures (length base - c.args.payload))
