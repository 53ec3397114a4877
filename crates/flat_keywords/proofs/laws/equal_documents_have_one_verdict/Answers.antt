use Rattle.flat_keywords.proofs.SameVerdict.{same_verdict}
use Rattle.flat_keywords.proofs.laws.equal_documents_have_one_verdict.Goals as goal

pub returns : goal.returns
returns g c = same_verdict (g.K.HasTree.tree c.args.keywords.now) (g.M.HasTree.tree c.args.left.now) (g.N.HasTree.tree c.args.right.now)
    c.keys_rise.ensures c.keys_rise-2.ensures c.keys_rise-3.ensures
