-- What a compiled keyword adds to the checks.
use Rattle.std.proofs.Common.{◌≡◌, Bool, false, true, Option, Some, None, Vec, Global, refl, sym, ap, ◌∙◌}
use Rattle.std.specs.Prelude.{◌↔◌, IfSome, IsSome, IsSomeAnd}
use Rattle.std.proofs.lemmas.Bool.{false≢true}
use Rattle.json_exact.specs.declared.value.Value.{Value}
use Rattle.json_model.specs.Decimal.{Decimal}
use Rattle.json_model.specs.Parts.{as_boolean, as_number}
use Rattle.json_model.specs.Tree.{Tree}
use Rattle.json_semantics.specs.Bounds.{Keeps}
use Rattle.json_semantics.specs.declared.numeric_check.BoundOp.{BoundOp}
use Rattle.json_semantics.specs.declared.numeric_check.CompiledBound.{CompiledBound}
use Rattle.literal_patterns.specs.declared.literal_pattern.LiteralPattern.{LiteralPattern}
use Rattle.flat_keywords.proofs.NameLists.{if_both}
use Rattle.flat_keywords.specs.inner.Passes.{Adds, AreListed, HasRoom, IsBoundOf, IsFree, IsLimitOf, IsPatternOf, IsWithin, KeepsAll, Meets, NeedsNoMemory, Passes, bound_at, limits_at}
use Rattle.flat_keywords.specs.Validity.{IsCount, Suits}
use Rattle.flat_keywords.specs.Verdict.{Holds, IsUpTo, Reaches, count_of}
use Rattle.flat_keywords.specs.declared.bounds.Bounds.{Bounds}
use Rattle.flat_keywords.specs.declared.checks.Checks.{Checks}
use Rattle.flat_keywords.specs.declared.keyword.Keyword.{Keyword}
use Rattle.flat_keywords.specs.declared.keyword.Keyword.TheVariants.{«Type», Enum, Const, Bound, Least, Greatest, UniqueItems, Pattern, Required, Silent, WrittenType}
use Rattle.flat_keywords.specs.declared.keyword.Measure.{Measure}
use Rattle.flat_keywords.specs.declared.keyword.Measure.TheVariants.{CodePoints, Elements, Members}
use Rattle.flat_keywords.specs.declared.limits.Limit.{Limit}
use Rattle.flat_keywords.specs.declared.limits.Limits.{Limits}

-- what is there is there
there : {A : Type 0} (o : Option A) (P : A → Type 0) → IsSomeAnd o P → IsSome o
there None P h = absurd h
there (Some a) P h = refl

-- what follows of what is there is there
there_and : {A : Type 0} (o : Option A) (P Q : A → Type 0) → ((a : A) → P a → Q a) → IsSomeAnd o P → IsSomeAnd o Q
there_and None P Q f h = h
there_and (Some a) P Q f h = f a h

-- what is asked of a limit that is there
asked : {A : Type 0} (o : Option A) (P : Type 0) (Q : A → Type 0) → IsSomeAnd o (λ a. P ↔ Q a) → P ↔ IfSome o Q
asked None P Q h = absurd h
asked (Some a) P Q h = h

module _ (old : Checks) (v : Tree) where
  -- a bound that was set
  pub adds_bound : (op : BoundOp) (bounds : Bounds) (b : CompiledBound) → IsSomeAnd (as_number v) (IsBoundOf op b)
      → ((x : Decimal) → KeepsAll bounds x ↔ (KeepsAll old.bounds x × IsWithin b x))
      → ((o : BoundOp) → (o ≡ b.op → ⊥) → bound_at o bounds ≡ bound_at o old.bounds)
      → Adds old (Bound op) v (record old { bounds = bounds })
  adds_bound op bounds b is kept free = record {
    suits = record { form = there (as_number v) (IsBoundOf op b) is; pattern = λ h. h; literal = λ h. h; not_deep = λ h. h };
    passes = λ d. (
      λ h. (let k = split d h.bounds in (
        record {
          types = h.types;
          written_types = h.written_types;
          listed = h.listed;
          constant = h.constant;
          bounds = k.0;
          code_points = h.code_points;
          elements = h.elements;
          members = h.members;
          unique = h.unique;
          pattern = h.pattern;
          required = h.required;
        },
        (holds d).0 k.1,
      )),
      λ h. record {
        types = h.0.types;
        written_types = h.0.written_types;
        listed = h.0.listed;
        constant = h.0.constant;
        bounds = both d (h.0.bounds, (holds d).1 h.1);
        code_points = h.0.code_points;
        elements = h.0.elements;
        members = h.0.members;
        unique = h.0.unique;
        pattern = h.0.pattern;
        required = h.0.required;
      },
    );
    frees = others;
    memory = λ never h. h;
  }
    where
      same : IsSome (as_number v) × (b.op ≡ op)
      same = go (as_number v) is
        where
          go : (o : Option Decimal) → IsSomeAnd o (IsBoundOf op b) → IsSome o × (b.op ≡ op)
          go None h = absurd h
          go (Some m) h = (refl, h.0)

      holds : (d : Tree) → IfSome (as_number d) (IsWithin b) ↔ Holds (Bound op) v d
      holds d = asked (as_number v) (IfSome (as_number d) (IsWithin b)) (λ m. IfSome (as_number d) (λ x. Keeps op x m))
          (there_and (as_number v) (IsBoundOf op b) (λ m. IfSome (as_number d) (IsWithin b) ↔ IfSome (as_number d) (λ x. Keeps op x m))
          (λ m h. if_both (as_number d) (IsWithin b) (λ x. Keeps op x m) h.1) is)

      split : (d : Tree) → IfSome (as_number d) (KeepsAll bounds) → IfSome (as_number d) (KeepsAll old.bounds) × IfSome (as_number d) (IsWithin b)
      split d = go (as_number d)
        where
          go : (o : Option Decimal) → IfSome o (KeepsAll bounds) → IfSome o (KeepsAll old.bounds) × IfSome o (IsWithin b)
          go None h = (tt, tt)
          go (Some x) h = (kept x).0 h

      both : (d : Tree) → IfSome (as_number d) (KeepsAll old.bounds) × IfSome (as_number d) (IsWithin b) → IfSome (as_number d) (KeepsAll bounds)
      both d = go (as_number d)
        where
          go : (o : Option Decimal) → IfSome o (KeepsAll old.bounds) × IfSome o (IsWithin b) → IfSome o (KeepsAll bounds)
          go None h = tt
          go (Some x) h = (kept x).1 h

      same_limits : (measure : Measure) → limits_at measure (record old { bounds = bounds }) ≡ limits_at measure old
      same_limits CodePoints = refl
      same_limits Elements = refl
      same_limits Members = refl

      others : (u : Keyword) → (u ≡ Bound op → ⊥) → IsFree u old → IsFree u (record old { bounds = bounds })
      others «Type» other h = h
      others Enum other h = h
      others Const other h = h
      others (Bound o) other h = free o (λ e. other (ap (λ (p : BoundOp). let k : Keyword = Bound p in k) (e ∙ same.1))) ∙ h
      others (Least measure) other h = ap (λ (l : Limits). l.least) (same_limits measure) ∙ h
      others (Greatest measure) other h = ap (λ (l : Limits). l.greatest) (same_limits measure) ∙ h
      others UniqueItems other h = h
      others Pattern other h = h
      others Required other h = h
      others (Silent form) other h = h
      others WrittenType other h = h

  -- a list of values that was kept
  pub adds_listed : (values : Vec Value Global) → IsFree Enum old → Suits Enum v → AreListed v values.items
      → Adds old Enum v (record old { listed = Some values })
  adds_listed values free suits is = record {
    suits = suits;
    passes = λ d. (
      λ h. (
        record {
          types = h.types;
          written_types = h.written_types;
          listed = rw free tt;
          constant = h.constant;
          bounds = h.bounds;
          code_points = h.code_points;
          elements = h.elements;
          members = h.members;
          unique = h.unique;
          pattern = h.pattern;
          required = h.required;
        },
        (is d).0 h.listed,
      ),
      λ h. record {
        types = h.0.types;
        written_types = h.0.written_types;
        listed = (is d).1 h.1;
        constant = h.0.constant;
        bounds = h.0.bounds;
        code_points = h.0.code_points;
        elements = h.0.elements;
        members = h.0.members;
        unique = h.0.unique;
        pattern = h.0.pattern;
        required = h.0.required;
      },
    );
    frees = others;
    memory = λ never h. h;
  }
    where
      same_limits : (measure : Measure) → limits_at measure (record old { listed = Some values }) ≡ limits_at measure old
      same_limits CodePoints = refl
      same_limits Elements = refl
      same_limits Members = refl

      others : (u : Keyword) → (u ≡ Enum → ⊥) → IsFree u old → IsFree u (record old { listed = Some values })
      others «Type» other h = h
      others Enum other h = absurd (other refl)
      others Const other h = h
      others (Bound o) other h = h
      others (Least measure) other h = ap (λ (l : Limits). l.least) (same_limits measure) ∙ h
      others (Greatest measure) other h = ap (λ (l : Limits). l.greatest) (same_limits measure) ∙ h
      others UniqueItems other h = h
      others Pattern other h = h
      others Required other h = h
      others (Silent form) other h = h
      others WrittenType other h = h

  -- a pattern that was kept
  pub adds_pattern : (a : LiteralPattern) → IsFree Pattern old → Suits Pattern v → IsPatternOf v a
      → Adds old Pattern v (record old { pattern = Some a })
  adds_pattern a free suits is = record {
    suits = suits;
    passes = λ d. (
      λ h. (
        record {
          types = h.types;
          written_types = h.written_types;
          listed = h.listed;
          constant = h.constant;
          bounds = h.bounds;
          code_points = h.code_points;
          elements = h.elements;
          members = h.members;
          unique = h.unique;
          pattern = rw free tt;
          required = h.required;
        },
        (is d).0 h.pattern,
      ),
      λ h. record {
        types = h.0.types;
        written_types = h.0.written_types;
        listed = h.0.listed;
        constant = h.0.constant;
        bounds = h.0.bounds;
        code_points = h.0.code_points;
        elements = h.0.elements;
        members = h.0.members;
        unique = h.0.unique;
        pattern = (is d).1 h.1;
        required = h.0.required;
      },
    );
    frees = others;
    memory = λ never h. h;
  }
    where
      same_limits : (measure : Measure) → limits_at measure (record old { pattern = Some a }) ≡ limits_at measure old
      same_limits CodePoints = refl
      same_limits Elements = refl
      same_limits Members = refl

      others : (u : Keyword) → (u ≡ Pattern → ⊥) → IsFree u old → IsFree u (record old { pattern = Some a })
      others «Type» other h = h
      others Enum other h = h
      others Const other h = h
      others (Bound o) other h = h
      others (Least measure) other h = ap (λ (l : Limits). l.least) (same_limits measure) ∙ h
      others (Greatest measure) other h = ap (λ (l : Limits). l.greatest) (same_limits measure) ∙ h
      others UniqueItems other h = h
      others Pattern other h = absurd (other refl)
      others Required other h = h
      others (Silent form) other h = h
      others WrittenType other h = h

  -- a truth value that was set for `uniqueItems`
  pub adds_unique : (b : Bool) → IsFree UniqueItems old → as_boolean v ≡ Some b → Adds old UniqueItems v (record old { unique = b })
  adds_unique b free is = record {
    suits = record { form = rw is refl; pattern = λ h. h; literal = λ h. h; not_deep = λ h. h };
    passes = λ d. (
      λ h. (
        record {
          types = h.types;
          written_types = h.written_types;
          listed = h.listed;
          constant = h.constant;
          bounds = h.bounds;
          code_points = h.code_points;
          elements = h.elements;
          members = h.members;
          unique = λ yes. absurd (false≢true (sym free ∙ yes));
          pattern = h.pattern;
          required = h.required;
        },
        λ asks. h.unique (one_truth is asks),
      ),
      λ h. record {
        types = h.0.types;
        written_types = h.0.written_types;
        listed = h.0.listed;
        constant = h.0.constant;
        bounds = h.0.bounds;
        code_points = h.0.code_points;
        elements = h.0.elements;
        members = h.0.members;
        unique = λ yes. h.1 (is ∙ ap (λ (x : Bool). let o : Option Bool = Some x in o) yes);
        pattern = h.0.pattern;
        required = h.0.required;
      },
    );
    frees = others;
    memory = λ never h. no_truth b is (λ asks. never (refl, asks));
  }
    where
      one_truth : {o : Option Bool} {x : Bool} → o ≡ Some x → o ≡ Some true → x ≡ true
      one_truth e f = cc

      no_truth : (x : Bool) → as_boolean v ≡ Some x → (as_boolean v ≡ Some true → ⊥) → x ≡ false
      no_truth true e never = absurd (never e)
      no_truth false e never = refl

      same_limits : (measure : Measure) → limits_at measure (record old { unique = b }) ≡ limits_at measure old
      same_limits CodePoints = refl
      same_limits Elements = refl
      same_limits Members = refl

      others : (u : Keyword) → (u ≡ UniqueItems → ⊥) → IsFree u old → IsFree u (record old { unique = b })
      others «Type» other h = h
      others Enum other h = h
      others Const other h = h
      others (Bound o) other h = h
      others (Least measure) other h = ap (λ (l : Limits). l.least) (same_limits measure) ∙ h
      others (Greatest measure) other h = ap (λ (l : Limits). l.greatest) (same_limits measure) ∙ h
      others UniqueItems other h = absurd (other refl)
      others Pattern other h = h
      others Required other h = h
      others (Silent form) other h = h
      others WrittenType other h = h

  module _ (measure : Measure) (limit : Limit) (new : Checks) (is : IsSomeAnd (as_number v) (λ m. IsCount m × IsLimitOf limit m)) where
    form : IsSomeAnd (as_number v) IsCount
    form = there_and (as_number v) (λ m. IsCount m × IsLimitOf limit m) IsCount (λ m h. h.0) is

    -- a least count that was set
    pub adds_least : ((d : Tree) → Passes new d ↔ (Passes old d × IfSome (count_of measure d) (Meets limit)))
        → ((u : Keyword) → (u ≡ Least measure → ⊥) → IsFree u old → IsFree u new) → (NeedsNoMemory old → NeedsNoMemory new)
        → Adds old (Least measure) v new
    adds_least passes frees memory = record {
      suits = record { form = form; pattern = λ h. h; literal = λ h. h; not_deep = λ h. h };
      passes = λ d. (λ h. (let p = (passes d).0 h in (p.0, (holds d).0 p.1)), λ h. (passes d).1 (h.0, (holds d).1 h.1));
      frees = frees;
      memory = λ never h. memory h;
    }
      where
        holds : (d : Tree) → IfSome (count_of measure d) (Meets limit) ↔ Holds (Least measure) v d
        holds d = asked (as_number v) (IfSome (count_of measure d) (Meets limit)) (λ m. IfSome (count_of measure d) (Reaches m))
            (there_and (as_number v) (λ m. IsCount m × IsLimitOf limit m)
            (λ m. IfSome (count_of measure d) (Meets limit) ↔ IfSome (count_of measure d) (Reaches m))
            (λ m h. if_both (count_of measure d) (Meets limit) (Reaches m) (λ n. (h.1 n).0)) is)

    -- a greatest count that was set
    pub adds_greatest : ((d : Tree) → Passes new d ↔ (Passes old d × IfSome (count_of measure d) (HasRoom limit)))
        → ((u : Keyword) → (u ≡ Greatest measure → ⊥) → IsFree u old → IsFree u new) → (NeedsNoMemory old → NeedsNoMemory new)
        → Adds old (Greatest measure) v new
    adds_greatest passes frees memory = record {
      suits = record { form = form; pattern = λ h. h; literal = λ h. h; not_deep = λ h. h };
      passes = λ d. (λ h. (let p = (passes d).0 h in (p.0, (holds d).0 p.1)), λ h. (passes d).1 (h.0, (holds d).1 h.1));
      frees = frees;
      memory = λ never h. memory h;
    }
      where
        holds : (d : Tree) → IfSome (count_of measure d) (HasRoom limit) ↔ Holds (Greatest measure) v d
        holds d = asked (as_number v) (IfSome (count_of measure d) (HasRoom limit)) (λ m. IfSome (count_of measure d) (IsUpTo m))
            (there_and (as_number v) (λ m. IsCount m × IsLimitOf limit m)
            (λ m. IfSome (count_of measure d) (HasRoom limit) ↔ IfSome (count_of measure d) (IsUpTo m))
            (λ m h. if_both (count_of measure d) (HasRoom limit) (IsUpTo m) (λ n. (h.1 n).1)) is)
