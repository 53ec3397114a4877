-- What a formula asks, by what it is: one layer of the fold.
use Rattle.std.proofs.Common.{◌≡◌, ap, sym, ◌∙◌, map, String, string_bytes}
use Rattle.std.specs.declared.alloc.Global.{Global}
use Rattle.std.specs.declared.boxed.Box.{Box}
use Rattle.std.specs.declared.vec.Vec.{Vec}
use Rattle.flat_keywords.specs.declared.checks.Checks.{Checks}
use Rattle.judge_tree.specs.inner.Asked.{Asked, flat, negated, at_key, at_others, asked, asked_step}
use Rattle.judge_tree.specs.declared.formula.Formula.{Formula}
use Rattle.judge_tree.specs.declared.formula.Formula.TheOpen.{Formula-F}
use Rattle.judge_tree.specs.declared.formula.Formula.TheVariants.{Flat, Not, Member, Others, rolls-Flat, rolls-Not, rolls-Member, rolls-Others}
use Rattle.judge_tree.specs.declared.formula.Formula.TheFolds.{fold-roll-Formula}

pub asks_flat : (c : Checks) → asked (Flat c) ≡ flat c
asks_flat c = ap asked (sym (rolls-Flat c)) ∙ fold-roll-Formula Asked asked_step (Formula-F.Flat c)

pub asks_not : (f : Box Formula Global) → asked (Not f) ≡ negated (asked f.value)
asks_not f = ap asked (sym (rolls-Not f)) ∙ fold-roll-Formula Asked asked_step (Formula-F.Not f)

pub asks_member : (n : String Global) (f : Box Formula Global) → asked (Member n f) ≡ at_key (string_bytes n) (asked f.value)
asks_member n f = ap asked (sym (rolls-Member n f)) ∙ fold-roll-Formula Asked asked_step (Formula-F.Member n f)

pub asks_others : (ns : Vec (String Global) Global) (f : Box Formula Global) → asked (Others ns f) ≡ at_others
    (map string_bytes ns.items) (asked f.value)
asks_others ns f = ap asked (sym (rolls-Others ns f)) ∙ fold-roll-Formula Asked asked_step (Formula-F.Others ns f)
