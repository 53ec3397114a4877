-- Members that are put into a map one after another, in key order, make the list that they came from.
use Rattle.std.proofs.Common.{◌≡◌, ℕ, Bool, true, false, List, [], ◌∷◌, Option, Some, None, refl, sym, ap, ◌∙◌}
use Rattle.std.specs.Prelude.{if◌then◌else◌}
use Rattle.std.specs.Str.{bytes_eq}
use Rattle.std.proofs.lemmas.Slice.Eq.{bytes_eq-Decides}
use Rattle.json_model.specs.Keys.{rises}
use Rattle.json_model.specs.Parts.{lookup}
use Rattle.json_model.proofs.KeyOrderLaws.{rises_all, rises_tail}
use Rattle.key_map.proofs.Lookups.{lookup_before, one_list}
use Rattle.key_map.specs.Pairs.{keys_of}

module _ {V : Type 0} where
  -- the first, and the second where the first is none
  abbrev pub or_else : Option V → Option V → Option V
  or_else (Some v) o = Some v
  or_else None o = o

  -- what is left to be put in and what is in have together the look-ups of the whole
  abbrev pub Shares : List (List ℕ × V) → List (List ℕ × V) → List (List ℕ × V) → Type 0
  Shares left inside whole = (k : List ℕ) → or_else (lookup k left) (lookup k inside) ≡ lookup k whole

  or_nothing : (o : Option V) → or_else o None ≡ o
  or_nothing (Some v) = refl
  or_nothing None = refl

  -- at first all is left
  pub none_inside : (whole inside : List (List ℕ × V)) → inside ≡ [] → Shares whole inside whole
  none_inside whole inside e k = ap (λ (ps : List (List ℕ × V)). or_else (lookup k whole) (lookup k ps)) e ∙ or_nothing (lookup k whole)

  put : (b : Bool) (left inside : Option V) (v : V) → (b ≡ true → left ≡ None)
      → or_else left (if b then Some v else inside) ≡ or_else (if b then Some v else left) inside
  put true left inside v h = ap (λ (o : Option V). or_else o (Some v)) (h refl)
  put false left inside v h = refl

  -- the first that is left is put in
  pub one_inside : (p : List ℕ × V) (before left inside after whole : List (List ℕ × V)) (key : List ℕ) (v : V)
      → before ≡ p ∷ left → rises (keys_of before) ≡ true → key ≡ p.0 → v ≡ p.1 → Shares before inside whole
      → ((k : List ℕ) → lookup k after ≡ (if bytes_eq k key then Some v else lookup k inside))
      → (rises (keys_of left) ≡ true) × Shares left after whole
  one_inside p before left inside after whole key v b e f g s h =
      let rise : rises (keys_of (p ∷ left)) ≡ true = ap (λ (ps : List (List ℕ × V)). rises (keys_of ps)) (sym b) ∙ e in (
        rises_tail p.0 (keys_of left) rise,
        λ k.
            ap (or_else (lookup k left))
            (h k
            ∙ ap (λ (l : List ℕ). if bytes_eq k l then Some v else lookup k inside) f
            ∙ ap (λ (w : V). if bytes_eq k p.0 then Some w else lookup k inside) g)
            ∙ put (bytes_eq k p.0) (lookup k left) (lookup k inside) p.1
            (λ t. ap (λ (l : List ℕ). lookup l left) ((bytes_eq-Decides k p.0).0 t) ∙ lookup_before p.0 left (rises_all p.0 (keys_of left) rise))
            ∙ ap (λ (ps : List (List ℕ × V)). or_else (lookup k ps) (lookup k inside)) (sym b)
            ∙ s k,
      )

  -- at last all is inside
  pub all_inside : (left inside whole : List (List ℕ × V)) → left ≡ [] → rises (keys_of inside) ≡ true → rises (keys_of whole) ≡ true
      → Shares left inside whole
      → inside ≡ whole
  all_inside left inside whole e f g s =
      one_list inside whole f g (λ k. sym (ap (λ (ps : List (List ℕ × V)). or_else (lookup k ps) (lookup k inside)) e) ∙ s k)
