use Rattle.std.proofs.Common.{sym}
use Rattle.std.specs.Str.{chars}
use Rattle.pattern_tree.specs.Nodes.{atom_of}
use Rattle.pattern_translation.proofs.ClassWriting.{no_atom, no_end, single_added, range_added, hyphens_added}
use Rattle.pattern_translation.proofs.class.write_part.Goals as goal

pub returns-in_default-clause-none : goal.returns-in_default-clause-none
returns-in_default-clause-none c = no_atom (chars c.args.text.now) c.in_default.ensures.value

pub returns-then-has_hyphens-clause-part : goal.returns-then-has_hyphens-clause-part
returns-then-has_hyphens-clause-part c =
    hyphens_added (chars c.args.before.now) (chars c.args.text.now) (chars c.in-Some.after.now) (chars c.rest-hyphen.result.now)
    (chars c.rest-end.result.now) (atom_of c.in-Some.atom) _ _ _ _ c.in-Some.ensures.value (sym c.if-has_hyphens.ensures)
    c.rest-hyphen.ensures.value c.rest-end.ensures.value c.in_ok-write_atom.ensures c.in_ok-write_atom-2.ensures
    c.in_ok-write_atom-3.ensures

pub returns-then-not-makes_range-clause-part : goal.returns-then-not-makes_range-clause-part
returns-then-not-makes_range-clause-part c =
    single_added (chars c.args.before.now) (chars c.args.text.now) (chars c.in-Some.after.now) (atom_of c.in-Some.atom) _ _
    c.in-Some.ensures.value (sym c.if-has_hyphens.ensures) (sym c.if-not-makes_range.ensures) c.in_ok-write_atom.ensures

pub returns-in_default-class_atom-clause-none : goal.returns-in_default-class_atom-clause-none
returns-in_default-class_atom-clause-none c =
    no_end (chars c.args.text.now) (chars c.in-Some.after.now) (atom_of c.in-Some.atom) c.in-Some.ensures.value
    (sym c.if-has_hyphens.ensures) (sym c.if-not-makes_range.ensures)
    (rw c.rest-last.ensures.value at c.in_default-class_atom.ensures.value)

pub returns-clause-part : goal.returns-clause-part
returns-clause-part c =
    range_added (chars c.args.before.now) (chars c.args.text.now) (chars c.in-Some.after.now) (chars c.rest-last.result.now)
    (chars c.in-Some-class_atom.end.now) (atom_of c.in-Some.atom) (atom_of c.in-Some-class_atom.greatest) _ _ _ _
    c.in-Some.ensures.value (sym c.if-has_hyphens.ensures) (sym c.if-not-makes_range.ensures) c.rest-last.ensures.value
    c.in-Some-class_atom.ensures.value c.in_ok-write_atom.ensures c.in_ok-push_str.ensures.bytes c.in_ok-write_atom-4.ensures
