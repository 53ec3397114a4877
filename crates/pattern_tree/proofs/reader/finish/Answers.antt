use Rattle.std.proofs.Common.{arith}
use Rattle.pattern_tree.specs.Nodes.{trees_of, frame_of}
use Rattle.pattern_tree.proofs.StepLemmas.{unfinished}
use Rattle.pattern_tree.proofs.SpanReader.{finished_added, finished_stands, none_open}
use Rattle.pattern_tree.proofs.reader.finish.Goals as goal

pub invariant_of-result : goal.invariant_of-result
invariant_of-result c =
    let (wide, x, s) = c.requires.stands in
    record {
      after_parts =
          (finished_added wide x c.args.reader c.close.new.nodes.items c.in_ok-root.root c.args.end c.requires.inside
          c.in_ok-root.ensures.nodes s).nodes.below;
      has_root = c.in_ok-root.ensures.id;
    }

pub returns-clause-spans : goal.returns-clause-spans
returns-clause-spans c = λ wide x s.
    finished_stands wide x c.args.reader _ c.args.end c.requires.inside (none_open c.args.reader.outer.items (omega arith))
    c.in_ok-root.ensures.nodes s

pub returns-then-len-gt0-clause-tree : goal.returns-then-len-gt0-clause-tree
returns-then-len-gt0-clause-tree c = unfinished (frame_of (trees_of c.args.reader.nodes.items) c.args.reader.here)
    (trees_of c.args.reader.nodes.items) c.args.reader.outer.items (omega arith)
