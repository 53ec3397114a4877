-- `KeyMap` as a type that may hold the type that holds it, by its values: what a recursive type needs to lead back through it.
-- This project's own. Nothing here need be believed.
use Rattle.std.specs.Prelude.{ℕ, List, [], ◌∷◌, map, String}
use mathlib.Core.Path.{◌≡◌, refl, sym, ap, ◌∙◌}
use mathlib.Core.Former.{Former, one_more, this, const, pair, list, via, children}
use base.Stored.{gcons, code_map, coded×, coded_list, coded_ℕ, coded_bool, Coded-set}
use denote.RattleType.{RattleType}
use denote.HoleLaws.{Alike}
use denote.HolePlaces.{Recodes, struct_places, laid}
use denote.Hole.Carrier.{listed}
use denote.Hole.Fix.{over}
use denote.Param.Weighed.{Weighed, w_list, w_pair, w_const}
use denote.Model.Placed.{held, view_places}
use Rattle.std.specs.formers.vec.Vec as vec
use Rattle.std.specs.declared.alloc.Global.{Global}
use Rattle.std.specs.contracts.alloc.Global as heap
use Rattle.std.specs.contracts.impls.GlobalAllocator.TheImpl.{ghosts}
use Rattle.json_model.specs.Keys.{rises}
use Rattle.key_map.specs.Pairs.{pair_of}
use Rattle.key_map.specs.declared.map.Member.{Member}
use Rattle.key_map.specs.declared.map.KeyMap.TheInside.{Inside}
use Rattle.key_map.specs.declared.map.KeyMap.TheView.{view, invariant}
use Rattle.key_map.specs.contracts.map.Member as M
use Rattle.key_map.specs.contracts.map.KeyMap as C
use Rattle.key_map.specs.contracts.map.KeyMap.TheInside as I

-- a key beside one of g's values
abbrev entry : Former {0} → Former {0}
entry g = pair (const (List ℕ)) g

abbrev pub the_former : Former {0} → Former {0}
the_former g = list (entry g)

abbrev pub the_weighed : {g : Former {0}} → Weighed g → Weighed (the_former g)
the_weighed w = w_list (w_pair (w_const (List ℕ)) w)

pub the_empty : List (List ℕ × ⊥)
the_empty = []

abbrev pub the_items : (X : Type 0) → List (List ℕ × X) → List X
the_items X ps = map (λ p. p.1) ps

pub the_items_listed : (X : Type 0) (ps : List (List ℕ × X)) → listed _ (children (the_former this) X ps) ≡ the_items X ps
the_items_listed X [] = refl
the_items_listed X (p ∷ ps) = ap (λ (l : List X). p.1 ∷ l) (the_items_listed X ps)

module _ {X Y : Type 0} (h : X → Y) where
  abbrev member_over : Member X → Member Y
  member_over m = record { key = m.key; value = h m.value }

  abbrev pair_over : List ℕ × X → List ℕ × Y
  pair_over p = (p.0, h p.1)

  seen : (ms : List (Member X)) → map pair_of (map member_over ms) ≡ map pair_over (map pair_of ms)
  seen [] = refl
  seen (m ∷ ms) = ap (λ (l : List (List ℕ × Y)). pair_over (pair_of m) ∷ l) (seen ms)

  same_keys : (ms : List (Member X)) → map (λ (m : Member Y). (pair_of m).0) (map member_over ms) ≡ map (λ (m : Member X). (pair_of m).0) ms
  same_keys [] = refl
  same_keys (m ∷ ms) = ap (λ (l : List (List ℕ)). (pair_of m).0 ∷ l) (same_keys ms)

abbrev member : Former {0}
member = via (pair (const (String Global)) this) (λ X. Member X) (λ X m. (m.key, m.value)) (λ X v. record { key = v.0; value = v.1 }) (λ X m. refl)
    (λ X v. refl)

abbrev fields : Former {0}
fields = via (vec.the_former member Global) (λ X. Inside X) (λ X a. a.members) (λ X v. record { members = v }) (λ X a. refl) (λ X v. refl)

kept : (X : Type 0) (ms : List (Member X)) → held (list (entry this)) X (map pair_of ms) ≡ held (list member) X ms
kept X [] = refl
kept X (m ∷ ms) = λ i. (one_more (kept X ms i).0, (m.value, (kept X ms i).1))

module _ (R S : RattleType) (h : R.Denot → S.Denot) where
  member_places : Alike R S h → Alike (M.the_row R) (M.the_row S) (member_over h)
  member_places a = struct_places (M.the_type R) (M.the_type S) ((λ s. s), (h, tt)) (member_over h) (λ d. refl) refl
      ((refl, (λ n. refl, λ n. refl)), (laid R S h a, tt))

  pub the_places : Alike R S h → Alike (C.the_row R) (C.the_row S) ((the_former this).map R.Denot S.Denot h)
  the_places a = view_places fields (the_former this) view (λ X Y k u. seen k u.members.items) (λ X u. kept X u.members.items)
      R.Denot S.Denot h (C.the_row R).coded (C.the_row S).coded
      (invariant R.Denot) (invariant S.Denot) (λ u. Coded-set coded_bool _ _) (λ u. Coded-set coded_bool _ _)
      (λ u e. ap rises (same_keys h u.members.items) ∙ e) (λ u e. sym (ap rises (same_keys h u.members.items)) ∙ e)
      (over (I.the_row R)) (over (I.the_row S))
      (struct_places (I.the_type R) (I.the_type S) (vec.mapped (member_over h), tt) _ (λ d. refl) refl
      (laid _ _ _ (vec.the_places heap.the_row ghosts (M.the_row R) (M.the_row S) (member_over h) (member_places a)), tt))

  coded_over : Recodes R S h → (ps : List (List ℕ × R.Denot)) → (C.the_row S).coded.code (map (pair_over h) ps) ≡ (C.the_row R).coded.code ps
  coded_over e ps = sym
      (code_map (coded× (coded_list coded_ℕ) R.coded).code (coded× (coded_list coded_ℕ) S.coded).code (pair_over h)
      (λ x i. gcons ((coded_list coded_ℕ).code x.0) (sym (e x.1) i)) ps)

  pub the_codes_placed : Recodes R S h → Recodes (C.the_row R) (C.the_row S) ((the_former this).map R.Denot S.Denot h)
  the_codes_placed e ps = coded_over e ps
