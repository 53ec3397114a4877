use Rattle.json_elements.proofs.RestLaws.{goes_in, goes_out}
use Rattle.json_elements.proofs.equality.advance.Goals as goal

pub returns-in-Pair : goal.returns-in-Pair
returns-in-Pair g c =
    goes_in g.N.Element.trees g.N.Element.pairs c.args.current c.args.outer.now.items c.in-Inside.inside c.next_of_both.new.rest _ _
    c.push.new.values.items
    c.in_ok-push-in-Inside.ensures c.in-Pair.ensures c.in-Inside.ensures

pub returns-in-Some : goal.returns-in-Some
returns-in-Some g c =
    goes_out g.N.Element.trees g.N.Element.pairs c.args.current c.args.outer.now.items c.in-Some.rest c.pop.new.self.items c.in-Some.ensures.items
    c.in-End.ensures
