use Rattle.std.proofs.Common.{◌≡◌, ◌+◌, ◌-◌, List, ℕ, length, Some, subst, sym, ap, ◌∙◌, true, arith}
use Rattle.jsonb_layout.specs.Seats.{where_it_is}
use Rattle.jsonb_layout.specs.inner.Trees.{item_tree}
use Rattle.jsonb.specs.inner.Values.{value_of, IsJsonTree, is_short, or_null, own_of, HasPad}
use Rattle.jsonb.proofs.OwnLaws.{kind_there, kind_is, short_own, seat_is, place_room}
use Rattle.jsonb.proofs.nodes.node_of.Goals as goal

pub unreachable-requires : goal.unreachable-requires
unreachable-requires c = kind_there c.args.at c.args.item c.requires.stands c.in_default.ensures

pub own_bytes-bytes-requires : goal.own_bytes-bytes-requires
own_bytes-bytes-requires c =
    let k = kind_is c.args.at c.args.item c.requires.stands c.in-Some.kind c.in-Some.ensures in
    subst (HasPad c.in-Some.kind c.args.at) (sym c.piece-piece.ensures.piece) k.fits

pub invariant_of-result : goal.invariant_of-result
invariant_of-result c =
    let k = kind_is c.args.at c.args.item c.requires.stands c.in-Some.kind c.in-Some.ensures in
    let own = c.own_bytes-bytes.ensures.own ∙ ap (own_of c.in-Some.kind c.args.at) c.piece-piece.ensures.piece in
    let size = ap length c.piece-piece.ensures.piece in
    let short = short_own c.in-Some.kind c.args.at c.args.item.piece (omega (arith, c.piece-piece.ensures.short, size)) in
    record {
      stands = subst (λ (b : List ℕ). IsJsonTree (value_of c.in-Some.kind b)) (sym own) k.owned.stands;
      short = subst (λ (b : List ℕ). is_short c.in-Some.kind b ≡ true) (sym own) short;
      room =
          place_room c.own_bytes-bytes.result.now _ c.offset_of-offset.ensures c.requires.before
          (omega (arith, c.requires.room, c.own_bytes-bytes.ensures.length, size)) (omega (arith, c.requires.room));
    }

pub returns-clause-tree : goal.returns-clause-tree
returns-clause-tree c =
    let k = kind_is c.args.at c.args.item c.requires.stands c.in-Some.kind c.in-Some.ensures in
    let own = c.own_bytes-bytes.ensures.own ∙ ap (own_of c.in-Some.kind c.args.at) c.piece-piece.ensures.piece in
    subst (λ (b : List ℕ). Some (or_null (value_of c.in-Some.kind b)) ≡ item_tree c.args.at c.args.item) (sym own) k.owned.same

pub returns-clause-seat : goal.returns-clause-seat
returns-clause-seat c =
    let own = c.own_bytes-bytes.ensures.own ∙ ap (own_of c.in-Some.kind c.args.at) c.piece-piece.ensures.piece in
    let bytes = c.own_bytes-bytes.result.now in
    let at =
    ap (λ (piece : List ℕ). where_it_is bytes c.args.word_begin (c.args.piece_begin + (length piece - length bytes)))
    c.piece-piece.ensures.piece in
    seat_is c.args.at c.args.item c.requires.stands c.args.word_begin c.args.piece_begin _ c.in-Some.kind bytes c.in-Some.ensures own
    (c.offset_of-offset.ensures ∙ at)
