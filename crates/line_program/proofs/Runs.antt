-- A run between two reads, and how it ends.
use Rattle.std.proofs.Common.{◌≡◌, ◌≢◌, ◌⊎◌, inl, inr, ℕ, ◌+◌, ◌^◌, ◌<◌, ◌≤◌, List, [], ◌∷◌, ◌++◌, length, Option, Some, None, refl, sym, ap, ◌∙◌, subst, append-nil, length-append, arith}
use Rattle.std.proofs.lemmas.Bool.Decides.{eqb_tells}
use Rattle.std.specs.Io.KnownBytes.{Consumes, Keeps, IsAtEnd}
use Rattle.line_program.specs.declared.status.Status.{Status}
use Rattle.line_program.specs.declared.status.Status.TheVariants.{Done, BadWords, ReadFault, WriteFault, LineTooLong, InputTooLong, OutOfMemory}
use Rattle.line_program.specs.Lines.{AreShort, lines_of, onto_first}
use Rattle.line_program.specs.inner.Feeding.{AnswersRest, Feeds, IsOpenLine, StoppedIn}
use Rattle.line_program.specs.Ran.{Agrees, AnswersBefore, AnswersEnded, Ran}
use Rattle.line_program.proofs.KnownBytes.{Appends-both, Consumes-both, Consumes-none, Consumes-then_kept}
use Rattle.line_program.proofs.Texts.{Answers-append, AreShort-append, lines_of-alone, lines_of-text}
use Rattle.line_program.proofs.Steps.{feeds_both, feeds_none, stopped_later}

-- all that was taken was fed, in so many turns
pub record Going (A : List ℕ → List ℕ → Type 0) (a b u v : Option (List ℕ)) (line : List ℕ) (turns : ℕ) : Type 0 where
  pub taken : List ℕ
  pub takes : Consumes a b taken
  pub feeds : Feeds A [] taken line u v
  pub is_open : IsOpenLine line
  pub enough : turns ≤ length taken

-- an open line alone is short
open_short : (line : List ℕ) → IsOpenLine line → AreShort (lines_of line)
open_short [] o = tt
open_short (b ∷ line) o = rw (lines_of-alone (b ∷ line) o.one (omega arith)) (o.short, tt)

-- ---- a text has no longer lines than a longer text

-- each line is no longer than the one at its place, of which there is one
abbrev Below : List (List ℕ) → List (List ℕ) → Type 0
Below [] ms = Unit {0}
Below (l ∷ ls) [] = ⊥
Below (l ∷ ls) (m ∷ ms) = (length l ≤ length m) × Below ls ms

below_onto : (b : ℕ) (ls ms : List (List ℕ)) → Below ls ms → Below (onto_first b ls) (onto_first b ms)
below_onto b [] [] h = (omega arith, tt)
below_onto b [] (m ∷ ms) h = (omega arith, tt)
below_onto b (l ∷ ls) [] h = absurd h
below_onto b (l ∷ ls) (m ∷ ms) h = let le = h.0 in (omega arith, h.1)

below_lines : (x y : List ℕ) → Below (lines_of x) (lines_of (x ++ y))
below_lines [] y = tt
below_lines (b ∷ x) y =
    let rest = below_lines x y in
    elim (eqb_tells b 10) [
      | inl hit ↦ rw hit.0 (omega arith, rest)
      | inr miss ↦ rw miss.0 (below_onto b (lines_of x) (lines_of (x ++ y)) rest)
    ]

short_below : (ls ms : List (List ℕ)) → Below ls ms → AreShort ms → AreShort ls
short_below [] ms h short = tt
short_below (l ∷ ls) [] h short = absurd h
short_below (l ∷ ls) (m ∷ ms) h short =
    let le = h.0 in
    let most = short.0 in
    (omega arith, short_below ls ms h.1 short.1)

short_at : (front : List (List ℕ)) (long : List ℕ) (others : List (List ℕ)) → AreShort (front ++ long ∷ others) → length long ≤ 2 ^ 24
short_at [] long others h = h.0
short_at (l ∷ front) long others h = short_at front long others h.1

front_of : (x : List ℕ) (b : Option (List ℕ)) (taken : List ℕ) → Consumes (Some x) b taken → (rest : List ℕ) × (x ≡ taken ++ rest)
front_of x None taken h = absurd h
front_of x (Some rest) taken h = (rest, h)

module _ {A : List ℕ → List ℕ → Type 0} where
  -- ---- between two reads

  -- before the first read
  pub going_none : (a u : Option (List ℕ)) (line : List ℕ) → line ≡ [] → Going A a a u u line 0
  going_none a u line e = rw e (record {
    taken = [];
    takes = Consumes-none a;
    feeds = feeds_none [] u;
    is_open = record { one = tt; short = omega arith };
    enough = omega arith;
  })

  -- one more piece was read and fed
  pub going_on : (a b c u v w : Option (List ℕ)) (line bytes line' : List ℕ) (n : ℕ) → Going A a b u v line n → Consumes b c bytes
      → 0 < length bytes → Feeds A line bytes line' v w → IsOpenLine line' → Going A a c u w line' (n + 1)
  going_on a b c u v w line bytes line' n t takes some feeds is_open =
      let enough = t.enough in
      record {
        taken = t.taken ++ bytes;
        takes = Consumes-both a b c t.taken bytes t.takes takes;
        feeds = feeds_both [] t.taken line bytes line' u v w t.feeds feeds;
        is_open = is_open;
        enough = rw length-append (omega arith);
      }

  -- the lines of what was taken
  taken_lines : (taken line : List ℕ) (u v : Option (List ℕ)) (f : Feeds A [] taken line u v) → lines_of taken ≡ f.ended ++ lines_of line
  taken_lines taken line u v f = ap lines_of f.parts ∙ lines_of-text f.ended line f.lines

  answers_ended : (a b u v : Option (List ℕ)) (line : List ℕ) (n : ℕ) (t : Going A a b u v line n) → AnswersEnded A t.taken t.feeds.text
  answers_ended a b u v line n t =
      let f = t.feeds in
      let short = AreShort-append f.ended (lines_of line) f.short (open_short line t.is_open) in
      record {
        ended = f.ended;
        open_line = line;
        parts = f.parts;
        lines = f.lines;
        one = t.is_open.one;
        short = rw (taken_lines t.taken line u v f) short;
        answers = f.answers;
      }

  -- ---- how a run ends

  pub ran_read_fault : (a b c u v : Option (List ℕ)) (line : List ℕ) (n : ℕ) → Going A a b u v line n → Keeps b c
      → Ran A a c u v ReadFault
  ran_read_fault a b c u v line n t kept = record {
    taken = t.taken;
    text = t.feeds.text;
    takes = Consumes-then_kept a b c t.taken t.takes kept;
    writes = t.feeds.writes;
    at_end = λ is. cc;
    agrees = answers_ended a b u v line n t;
  }

  pub ran_too_much : (a b u v : Option (List ℕ)) (line : List ℕ) (n : ℕ) → Going A a b u v line n → 2 ^ 48 ≤ n
      → Ran A a b u v InputTooLong
  ran_too_much a b u v line n t over =
      let enough = t.enough in
      record {
        taken = t.taken;
        text = t.feeds.text;
        takes = t.takes;
        writes = t.feeds.writes;
        at_end = λ is. cc;
        agrees = (omega arith, answers_ended a b u v line n t);
      }

  -- a run that stops at a line has one of three statuses
  agrees_before : (status : Status) (taken text : List ℕ) → AnswersBefore A status taken text → Agrees A status taken text
  agrees_before Done taken text b = absurd b.stops
  agrees_before BadWords taken text b = absurd b.stops
  agrees_before ReadFault taken text b = absurd b.stops
  agrees_before InputTooLong taken text b = absurd b.stops
  agrees_before WriteFault taken text b = b
  agrees_before LineTooLong taken text b = b
  agrees_before OutOfMemory taken text b = b

  not_done : (status : Status) (taken text : List ℕ) → AnswersBefore A status taken text → status ≡ Done → ⊥
  not_done status taken text b is = let b' : AnswersBefore A Done taken text = subst (λ s. AnswersBefore A s taken text) is b in b'.stops

  not_read : (status : Status) (taken text : List ℕ) → AnswersBefore A status taken text → status ≡ ReadFault → ⊥
  not_read status taken text b is = let b' : AnswersBefore A ReadFault taken text = subst (λ s. AnswersBefore A s taken text) is b in b'.stops

  pub ran_stopped : (a b c u v w : Option (List ℕ)) (line bytes : List ℕ) (n : ℕ) (s : Status) → Going A a b u v line n
      → Consumes b c bytes → StoppedIn A (line ++ bytes) v w s → Ran A a c u w s
  ran_stopped a b c u v w line bytes n s t takes stopped =
      let whole = stopped_later [] t.taken line bytes u v w s t.feeds stopped in
      record {
        taken = t.taken ++ bytes;
        text = whole.text;
        takes = Consumes-both a b c t.taken bytes t.takes takes;
        writes = whole.writes;
        at_end = λ is. absurd (not_done s (t.taken ++ bytes) whole.text whole.answers is);
        agrees = agrees_before s (t.taken ++ bytes) whole.text whole.answers;
      }

  -- the run stops at the line that has no end
  pub ran_unfinished : (a b c u v w : Option (List ℕ)) (line : List ℕ) (n : ℕ) (s : Status) → Going A a b u v line n
      → Consumes b c [] → StoppedIn A line v w s → Ran A a c u w s
  ran_unfinished a b c u v w line n s t takes stopped =
      ran_stopped a b c u v w line [] n s t takes (subst (λ z. StoppedIn A z v w s) (sym (append-nil line)) stopped)

  pub ran_done : (a b c u v w : Option (List ℕ)) (line : List ℕ) (n : ℕ) → Going A a b u v line n → Consumes b c [] → IsAtEnd c
      → AnswersRest A line v w → Ran A a c u w Done
  ran_done a b c u v w line n t takes at_end rest =
      let f = t.feeds in
      let lines : lines_of (t.taken ++ []) ≡ f.ended ++ lines_of line = ap lines_of (append-nil t.taken) ∙ taken_lines t.taken line u v f in
      let short = AreShort-append f.ended (lines_of line) f.short (open_short line t.is_open) in
      let answers = Answers-append A f.ended (lines_of line) f.text rest.text f.answers rest.answers in
      record {
        taken = t.taken ++ [];
        text = f.text ++ rest.text;
        takes = Consumes-both a b c t.taken [] t.takes takes;
        writes = Appends-both u v w f.text rest.text f.writes rest.writes;
        at_end = λ is. at_end;
        agrees = record { short = rw lines short; answers = rw lines answers };
      }

  -- ---- a whole run

  -- nothing but want of memory keeps a run with no fault and no limit met from its end
  completes : (x : List ℕ) (b u v : Option (List ℕ)) (s : Status) → Ran A (Some x) b u v s → AreShort (lines_of x) → length x < 2 ^ 48
      → (s ≢ ReadFault) → (s ≢ WriteFault) → (s ≡ Done) ⊎ (s ≡ OutOfMemory)
  completes x b u v Done ran short below no_read no_write = inl refl
  completes x b u v BadWords ran short below no_read no_write = absurd ran.agrees
  completes x b u v ReadFault ran short below no_read no_write = absurd (no_read refl)
  completes x b u v WriteFault ran short below no_read no_write = absurd (no_write refl)
  completes x b u v LineTooLong ran short below no_read no_write =
      let met = ran.agrees in
      let rest = front_of x b ran.taken ran.takes in
      let all : AreShort (lines_of (ran.taken ++ rest.0)) = subst (λ t. AreShort (lines_of t)) rest.1 short in
      let taken = short_below (lines_of ran.taken) (lines_of (ran.taken ++ rest.0)) (below_lines ran.taken rest.0) all in
      let most = short_at met.front met.line met.others (subst (λ t. AreShort t) met.parts taken) in
      let over = met.stops.0 in
      absurd (omega arith)
  completes x b u v InputTooLong ran short below no_read no_write =
      let many = ran.agrees.0 in
      let rest = front_of x b ran.taken ran.takes in
      let len : length x ≡ length ran.taken + length rest.0 = ap length rest.1 ∙ length-append ran.taken rest.0 in
      absurd (omega arith)
  completes x b u v OutOfMemory ran short below no_read no_write = inr refl

  -- the same where the source tells its bytes
  pub completes_at : (a : Option (List ℕ)) (x : List ℕ) (b u v : Option (List ℕ)) (s : Status) → a ≡ Some x → Ran A a b u v s
      → AreShort (lines_of x) → length x < 2 ^ 48 → (s ≢ ReadFault) → (s ≢ WriteFault) → (s ≡ Done) ⊎ (s ≡ OutOfMemory)
  completes_at a x b u v s e ran = completes x b u v s (rw e at ran)

  -- the same of a run that stops at a line
  pub completes_stopped : (a : Option (List ℕ)) (x : List ℕ) (b c u v w : Option (List ℕ)) (line bytes : List ℕ) (n : ℕ) (s : Status)
      → a ≡ Some x → Going A a b u v line n → Consumes b c bytes → StoppedIn A (line ++ bytes) v w s
      → AreShort (lines_of x) → length x < 2 ^ 48 → (s ≢ WriteFault) → (s ≡ Done) ⊎ (s ≡ OutOfMemory)
  completes_stopped a x b c u v w line bytes n s e t takes stopped short below no_write =
      completes_at a x c u w s e (ran_stopped a b c u v w line bytes n s t takes stopped) short below
      (λ is. not_read s (line ++ bytes) stopped.text stopped.answers is) no_write

  -- the same at the line that has no end
  pub completes_unfinished : (a : Option (List ℕ)) (x : List ℕ) (b c u v w : Option (List ℕ)) (line : List ℕ) (n : ℕ) (s : Status)
      → a ≡ Some x → Going A a b u v line n → Consumes b c [] → StoppedIn A line v w s
      → AreShort (lines_of x) → length x < 2 ^ 48 → (s ≢ WriteFault) → (s ≡ Done) ⊎ (s ≡ OutOfMemory)
  completes_unfinished a x b c u v w line n s e t takes stopped =
      completes_stopped a x b c u v w line [] n s e t takes (subst (λ z. StoppedIn A z v w s) (sym (append-nil line)) stopped)
