use Rattle.pattern_tree.specs.Nodes.{mark_of}
use Rattle.pattern_tree.proofs.PlaceLaws.{open_refused, open_named, open_plain}
use Rattle.pattern_tree.proofs.places.Places.open.Goals as goal

pub returns-then-not-branch : goal.returns-then-not-branch
returns-then-not-branch c = λ s h. open_refused c.args.self.now s c.args.start (mark_of c.args.mark.now) c.in-Some.name.now
    c.in_ok-name-in-Some.field-0 h c.in-Some.ensures c.in_ok-name-in-Some.ensures.free c.if-not-branch.true

pub returns-in_ok-push-in-None : goal.returns-in_ok-push-in-None
returns-in_ok-push-in-None c = λ s h. open_plain c.args.self.now c.push.new.self s c.args.start c.args.end (mark_of c.args.mark.now) h
    c.requires.from c.in-None.ensures c.in_ok-push-in-None.ensures.latest c.in_ok-push-in-None.ensures.outer
    c.in_ok-push-in-None.ensures.alternative

pub returns-in_ok-push-in-Some : goal.returns-in_ok-push-in-Some
returns-in_ok-push-in-Some c = λ s h. open_named c.args.self.now c.name.new.self c.push-in-Some.new.self s c.args.start c.args.end
    (mark_of c.args.mark.now) c.in-Some.name.now c.in_ok-name-in-Some.field-0 h c.requires.from c.in-Some.ensures
    c.in_ok-name-in-Some.ensures.free c.if-not-branch.false
    (c.in_ok-name-in-Some.ensures.place c.if-not-branch.false) c.in_ok-name-in-Some.ensures.outer c.in_ok-name-in-Some.ensures.alternative
    c.in_ok-push-in-Some.ensures.latest c.in_ok-push-in-Some.ensures.outer c.in_ok-push-in-Some.ensures.alternative
