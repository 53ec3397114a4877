use Rattle.std.proofs.Common.{◌++◌, append_assoc, arith, sym, subst, refl}
use Rattle.std.proofs.lemmas.Grind.{put_two}
use Rattle.std.specs.Fmt.{HasWritten}
use Rattle.json_traits.proofs.types.set.JsonTypeSetDebug.fmt.Goals.{in-Some+in_ok-write_str-2+in-None, in_default}
use Rattle.std.specs.Prelude.{codes}
use Rattle.std.proofs.Output.{has_written_append}
use Rattle.json_traits.specs.Shown.{shown}
use Rattle.json_traits.proofs.types.set.JsonTypeSetDebug.fmt.Goals as goal

pub loop-ty-init : goal.loop-ty-init
unfolding shown
loop-ty-init g c = λ plain.
    let a = c.in_ok-write_str.ensures.writes plain refl in
    let b = c.in_ok-write_str-2.ensures.writes a.plain refl in (
      codes "(" ++ c.as_str.result.now,
      has_written_append _ _ _ _ _ _ a b,
      grind (
        arith,
        append_assoc,
        c.as_str.ensures,
        c.in-Some.ensures.steps,
        c.iter-types.ensures,
        c.into_iter-ty-iterator.ensures.into_iter_gives,
      ),
    )

pub loop-ty-preserved : goal.loop-ty-preserved
loop-ty-preserved g c = λ plain.
    let so_far = c.loop-ty.invariant plain in
    let a = c.in_ok-write_str-3.ensures.writes so_far.1.plain refl in
    let b = c.in_ok-write_str-4.ensures.writes a.plain refl in (
      (so_far.0 ++ codes ", ") ++ c.as_str-in-loop-ty.result.now,
      has_written_append _ _ _ _ _ _ (has_written_append _ _ _ _ _ _ so_far.1 a) b,
      grind (arith, append_assoc, so_far.2, c.as_str-in-loop-ty.ensures, c.in-Some-ty.ensures.steps),
    )

pub returns : goal.returns
unfolding shown
returns g c = record {
  writes = λ plain ok. elim c.match-next.branch [
    | in-Some+in_ok-write_str-2+in-None w ↦
        let s = w.loop-ty.invariant plain in
        let h = subst (HasWritten g.W.Write.write_str_gives c.args.f.now s.0) (sym w.f-is) s.1 in
        put_two _ _ _ _ _ _ _ h (c.write_str-2.ensures.writes h.plain ok) (grind (arith, append_assoc, s.2, w.in-None.ensures.steps))
    | in_default w ↦
        let a = c.in_ok-write_str.ensures.writes plain refl in
        let h = subst (HasWritten g.W.Write.write_str_gives c.args.f.now (codes "(")) (sym w.f-is) a in
        put_two _ _ _ _ _ _ _ h (c.write_str-2.ensures.writes h.plain ok) (grind (
          arith,
          append_assoc,
          w.in_default.ensures.steps,
          c.iter-types.ensures,
        ))
  ];
}
