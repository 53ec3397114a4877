use Rattle.std.proofs.Common.{sym, arith}
use Rattle.jsonb_layout.proofs.Sizes.{opened_shares}
use Rattle.jsonb.proofs.items.Items.of.Goals as goal

pub overflow_add-items : goal.overflow_add-items
overflow_add-items c = let s = opened_shares c.args.bytes.now _ _ _ (sym c.in_ok-opened.ensures) in omega (arith, c.requires, s.whole)

pub overflow_add-items-2 : goal.overflow_add-items-2
overflow_add-items-2 c = let s = opened_shares c.args.bytes.now _ _ _ (sym c.in_ok-opened.ensures) in omega (arith, c.requires, s.whole)

pub invariant_of-items : goal.invariant_of-items
invariant_of-items c =
    let s = opened_shares c.args.bytes.now _ _ _ (sym c.in_ok-opened.ensures) in
    record { words = omega arith; room = omega (arith, c.requires, s.whole, s.at) }
