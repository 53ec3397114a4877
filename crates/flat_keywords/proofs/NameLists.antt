-- What reading a list of names keeps from element to element.
use Rattle.std.proofs.Common.{◌≡◌, ℕ, ◌+◌, ◌≤◌, List, [], ◌∷◌, ◌++◌, length, take, Option, Some, None, Bool, true, false, cond, ◌⊎◌, inl, inr, refl, sym, ap, subst, ◌∙◌, take_all, Bor}
use Rattle.std.specs.Prelude.{◌↔◌, IsTrue, IsSome, IfSome, String, string_bytes, bytes_eq}
use Rattle.std.specs.List.{AllByRecursion}
use Rattle.std.proofs.lemmas.Slice.Eq.{bytes_eq-Decides}
use Rattle.json_model.specs.Tree.{Tree}
use Rattle.json_model.specs.Parts.{as_string, lookup}
use Rattle.json_traits.proofs.GivesLaws.{AtItem}
use Rattle.flat_keywords.specs.inner.Passes.{HasKeys, Gains}
use Rattle.flat_keywords.specs.Validity.{AreDistinct, AreNames}
use Rattle.flat_keywords.specs.Verdict.{IsAmong, IsKeyOf}
use Rattle.flat_keywords.proofs.Compiling.{all_snoc, all_front}
use Rattle.flat_keywords.proofs.TypeLists.{all_take, distinct_take, distinct_snoc, last_is_new, among_snoc, name_is_new, name_is_old}

abbrev IsString : Tree → Type 0
IsString v = IsSome (as_string v)

-- the first k trees are strings, none twice: they are those that a set has, and the names hold them
pub record Collected {Z : Type 0} (ts : List Tree) (names : List (String Z)) (has : Bor (List ℕ) → Bool) (k : ℕ) : Type 0 where
  pub strings : AllByRecursion IsString (take k ts)
  pub distinct : AreDistinct (take k ts)
  pub among : (q : Bor (List ℕ)) → IsTrue (has q) ↔ IsAmong q.now (take k ts)
  pub keys : (ps : List (List ℕ × Tree)) → HasKeys names ps ↔ AllByRecursion (IsKeyOf ps) (take k ts)

pub starts : {Z : Type 0} (ts : List Tree) (names : List (String Z)) (has : Bor (List ℕ) → Bool) → names ≡ []
    → ((q : Bor (List ℕ)) → has q ≡ false) → Collected ts names has 0
starts ts names has e h = record {
  strings = tt;
  distinct = tt;
  among = λ q. (λ t. (let z : true ≡ false = sym t ∙ h q in cc), λ a. absurd a);
  keys = λ ps. (λ _. tt, λ _. rw e tt);
}

module _ {Z : Type 0} (ts : List Tree) (names : List (String Z)) (has : Bor (List ℕ) → Bool) (k : ℕ) (y : Tree)
    (at : AtItem ts k y) (s : Collected ts names has k) where
  pub no_string : as_string y ≡ None → AreNames ts → ⊥
  no_string e h =
      let front : AllByRecursion IsString (take k ts ++ y ∷ []) =
      subst (λ (l : List Tree). AllByRecursion IsString l) at.front (all_take IsString ts (k + 1) h.0) in
      gone (as_string y) e (all_front IsString (take k ts) y front).1
    where
      gone : (o : Option (List ℕ)) → o ≡ None → IsSome o → ⊥
      gone None e h = cc
      gone (Some a) e h = cc

  module _ (key : Bor (List ℕ)) (is : Some key.now ≡ as_string y) where
    pub twice : has key ≡ true → AreNames ts → ⊥
    twice held h =
        let front : AreDistinct (take k ts ++ y ∷ []) = subst AreDistinct at.front (distinct_take ts (k + 1) h.1) in
        name_is_old key.now (take k ts) y (sym is) ((s.among key).0 held) (last_is_new (take k ts) y front)

    module _ (more : Bor (List ℕ) → Bool) (free : has key ≡ false)
        (grows : (q : Bor (List ℕ)) → more q ≡ cond (bytes_eq key.now q.now) true (has q)) where
      among_now : (q : Bor (List ℕ)) → IsTrue (more q) ↔ (IsAmong q.now (take k ts) ⊎ (as_string y ≡ Some q.now))
      among_now q = go (bytes_eq key.now q.now) refl
        where
          one : bytes_eq key.now q.now ≡ true → as_string y ≡ Some q.now
          one e = sym is ∙ ap (λ (x : List ℕ). let o : Option (List ℕ) = Some x in o) ((bytes_eq-Decides key.now q.now).0 e)

          go : (b : Bool) → bytes_eq key.now q.now ≡ b → IsTrue (more q) ↔ (IsAmong q.now (take k ts) ⊎ (as_string y ≡ Some q.now))
          go true e = (λ _. inr (one e), λ _. grows q ∙ ap (λ b. cond b true (has q)) e)
          go false e =
              let same : more q ≡ has q = grows q ∙ ap (λ b. cond b true (has q)) e in (
                λ h. inl ((s.among q).0 (sym same ∙ h)),
                λ h. elim h [
                  | inl a ↦ same ∙ (s.among q).1 a
                  | inr n ↦ (let o : ◌≡◌ {A = Option (List ℕ)} (Some key.now) (Some q.now) = is ∙ n in
                      let i : key.now ≡ q.now = cc in let z : true ≡ false = sym ((bytes_eq-Decides key.now q.now).1 i) ∙ e in cc)
                ],
              )

      keys_now : (new : List (String Z)) → Gains names new key.now → (ps : List (List ℕ × Tree))
          → HasKeys new ps ↔ AllByRecursion (IsKeyOf ps) (take k ts ++ y ∷ [])
      keys_now new gains ps = rw gains.1 (
        λ h. (let r = all_front Has names gains.0 h in
            let key : IsKeyOf ps y = rw (← is) (subst (λ (x : List ℕ). IsSome (lookup x ps)) gains.2 r.1) in
            all_snoc (IsKeyOf ps) (take k ts) y ((s.keys ps).0 r.0) key),
        λ h. (let r = all_front (IsKeyOf ps) (take k ts) y h in
            all_snoc Has names gains.0 ((s.keys ps).1 r.0) (subst (λ (x : List ℕ). IsSome (lookup x ps)) (sym gains.2) (key_of r.1))),
      )
        where
          Has : String Z → Type 0
          Has name = IsSome (lookup (string_bytes name) ps)

          key_of : IsKeyOf ps y → IsSome (lookup key.now ps)
          key_of h = rw (← is) at h

      pub goes_on : (new : List (String Z)) → Gains names new key.now → Collected ts new more (k + 1)
      goes_on new gains = record {
        strings = rw at.front (all_snoc IsString (take k ts) y s.strings (rw (← is) refl));
        distinct =
            rw at.front (distinct_snoc (take k ts) y s.distinct
            (name_is_new key.now (take k ts) y (sym is) (λ a. let z : true ≡ false = sym ((s.among key).1 a) ∙ free in cc)));
        among = λ q. rw at.front (let h = among_now q in let r = among_snoc q.now (take k ts) y in (λ x. r.1 (h.0 x), λ x. h.1 (r.0 x)));
        keys = λ ps. rw at.front (keys_now new gains ps);
      }

pub if_both : {X : Type 0} (o : Option X) (A B : X → Type 0) → ((x : X) → A x ↔ B x) → IfSome o A ↔ IfSome o B
if_both None A B h = (λ _. tt, λ _. tt)
if_both (Some x) A B h = h x

pub ends : {Z : Type 0} (ts : List Tree) (names : List (String Z)) (has : Bor (List ℕ) → Bool) (k : ℕ) → length ts ≤ k
    → Collected ts names has k → AreNames ts × ((ps : List (List ℕ × Tree)) → HasKeys names ps ↔ AllByRecursion (IsKeyOf ps) ts)
ends ts names has k le s =
    let all : take k ts ≡ ts = take_all k ts le in
    let strings : AllByRecursion IsString ts = subst (λ (l : List Tree). AllByRecursion IsString l) all s.strings in
    ((strings, subst AreDistinct all s.distinct), λ ps. subst (λ (l : List Tree). HasKeys names ps ↔ AllByRecursion (IsKeyOf ps) l) all (s.keys ps))
