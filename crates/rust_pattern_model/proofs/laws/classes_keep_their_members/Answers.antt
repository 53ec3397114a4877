use Rattle.std.proofs.Common.{[], subst, append-nil}
use Rattle.rust_pattern_model.proofs.SameSet.{SameSet}
use Rattle.rust_pattern_model.proofs.ClassReads.{class_read}
use Rattle.rust_pattern_model.proofs.laws.classes_keep_their_members.Goals as goal

pub returns : goal.returns
returns c = λ x w negated items e f n i p.
    let s : SameSet w negated items [] = subst (λ z. SameSet z negated items []) (append-nil w)
    ((class_read x [] w negated items e f n i p).0 []) in
    (s.inner, s.class, s.same)
