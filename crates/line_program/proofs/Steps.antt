-- How the steps of a run follow one another.
use Rattle.std.proofs.Common.{◌≡◌, inl, inr, ℕ, ◌+◌, ◌-◌, ◌^◌, ◌<◌, ◌≤◌, List, [], ◌∷◌, ◌++◌, length, Option, Result, Ok, Err, refl, sym, ap, ◌∙◌, subst, append_assoc, append-nil, length-append, arith}
use Rattle.std.specs.Prelude.{IfErr, OnOk, min}
use Rattle.line_program.specs.declared.status.Status.{Status}
use Rattle.line_program.specs.declared.status.Status.TheVariants.{WriteFault, OutOfMemory}
use Rattle.line_program.specs.declared.stream.SinkError.{SinkError}
use Rattle.line_program.specs.declared.stream.SinkError.TheVariants as sink
use Rattle.line_program.specs.Answers.{Answers, AnswersOne}
use Rattle.line_program.specs.Faults.{SinkCountsEach}
use Rattle.line_program.specs.inner.Feeding.{Answered, AnswersRest, Extends, Feeds, IsOpenLine, StoppedAt, StoppedIn}
use Rattle.line_program.specs.Lines.{IsOneLine, lines_of, text_of}
use Rattle.line_program.specs.Puts.{Puts}
use Rattle.line_program.specs.Ran.{IsCutOff}
use Rattle.line_program.proofs.KnownBytes.{Appends-both, Appends-none}
use Rattle.line_program.proofs.Texts.{Answers-append, AreLines-append, AreShort-append, Lacks-append, lines_of-alone, lines_of-text, one_line, text_of-append, text_of-more}

-- an open line is empty again after its end
pub open_none : (line : List ℕ) → line ≡ [] → IsOpenLine line
open_none line e = rw e (record { one = tt; short = omega arith })

-- an open line that a part without an end came to is open still
pub still_open : {T : Type 0} (line now part : List ℕ) (result : Result T Status) (x : T) → result ≡ Ok x
    → Extends line now part result → IsOpenLine line → IsOneLine part → IsOpenLine now
still_open line now part result x e step was one =
    let added = rw e at step.added in
    record { one = rw added (Lacks-append 10 line part was.one one); short = rw e at step.short }

err_is : {U : Type 0} (q : Result U SinkError) (f m : SinkError) → q ≡ Err f → q ≡ Err m → f ≡ m
err_is q f m is told = let same = sym is ∙ told in cc

-- a write that failed after others that worked
pub counts_on : {T U : Type 0} (a b c : ℕ) (r : Result T SinkError) (q : Result U SinkError) (e f : SinkError)
    → r ≡ Err e → q ≡ Err f → f ≡ e → b ≡ a → SinkCountsEach b c r → SinkCountsEach a c q
counts_on a b c r q e f was is same kept step =
    record {
      kept = rw is tt;
      memory = λ told. step.memory (was ∙ ap Err (sym same ∙ err_is q f sink.OutOfMemory is told)) ∙ kept;
      one = λ told. step.one (was ∙ ap Err (sym same ∙ err_is q f sink.Failed is told)) ∙ ap (λ n. min (n + 1) (2 ^ 64 - 1)) kept;
    }

-- so much of a piece was fed, and this rest is left
pub record Fed (A : List ℕ → List ℕ → Type 0) (a piece rest b : List ℕ) (u v : Option (List ℕ)) : Type 0 where
  pub front : List ℕ
  pub parts : piece ≡ front ++ rest
  pub feeds : Feeds A a front b u v
  pub is_open : IsOpenLine b

cut_parts : (piece front rest part after : List ℕ) → piece ≡ front ++ rest → rest ≡ part ++ 10 ∷ after
    → piece ≡ (front ++ (part ++ 10 ∷ [])) ++ after
cut_parts piece front rest part after e cut =
    e ∙ ap (λ t. front ++ t) (cut ∙ sym (append_assoc part (10 ∷ []) after)) ∙ sym (append_assoc front (part ++ 10 ∷ []) after)

-- a part that cannot be held is not empty
some_part : {T : Type 0} (line now part : List ℕ) (status : Status) → Extends {T = T} line now part (Err status) → IsOpenLine line
    → 0 < length (line ++ part)
some_part line now part status step is_open =
    elim step.kind [
      | inl long ↦ let over = step.long (ap Err long) in omega (arith, over)
      | inr memory ↦ let some = (step.memory (ap Err memory)).0 in rw length-append (omega (arith, some))
    ]

module _ {A : List ℕ → List ℕ → Type 0} where
  -- ---- a line

  -- an answer to one line
  pub one_answer : (line text : List ℕ) → AnswersOne A line text → Answers A (line ∷ []) text
  one_answer line text a = (a.answer, [], a.right, refl, a.is)

  -- a line for which no memory was found, nor begun to be answered
  pub stopped_unbegun : (line : List ℕ) (told : Option (List ℕ)) → length line ≤ 2 ^ 24 → StoppedAt A line told told OutOfMemory
  stopped_unbegun line told short = record { begun = []; writes = Appends-none told; stops = (short, inl refl) }

  -- the answer to a line was not written whole
  cut_off : {T E : Type 0} (line piece : List ℕ) (u v : Option (List ℕ)) (result : Result T E) (error : E) → result ≡ Err error
      → AnswersOne A line piece → (puts : Puts u v piece result) → IsCutOff A line puts.front
  cut_off line piece u v result error e a puts =
      record { answer = a.answer; missing = puts.back; right = a.right; parts = sym a.is ∙ puts.parts; some = rw e at puts.missing }

  -- a write of the answer failed
  pub stopped_failing : {T E : Type 0} (line piece : List ℕ) (u v : Option (List ℕ)) (result : Result T E) (error : E) → result ≡ Err error
      → AnswersOne A line piece → Puts u v piece result → length line ≤ 2 ^ 24 → StoppedAt A line u v WriteFault
  stopped_failing line piece u v result error e a puts short =
      record { begun = puts.front; writes = puts.appends; stops = (short, cut_off line piece u v result error e a puts) }

  -- the sink had no memory for the answer
  pub stopped_full : {T E : Type 0} (line piece : List ℕ) (u v : Option (List ℕ)) (result : Result T E) (error : E) → result ≡ Err error
      → AnswersOne A line piece → Puts u v piece result → length line ≤ 2 ^ 24 → StoppedAt A line u v OutOfMemory
  stopped_full line piece u v result error e a puts short =
      record { begun = puts.front; writes = puts.appends; stops = (short, inr (cut_off line piece u v result error e a puts)) }

  -- an answer that was written whole
  pub answered_whole : {T E : Type 0} (line piece : List ℕ) (u v : Option (List ℕ)) (result : Result T E) (x : T) → result ≡ Ok x
      → AnswersOne A line piece → Puts u v piece result → IsOpenLine line → Answered A line u v
  answered_whole line piece u v result x e a puts is_open =
      let none = rw e at puts.all in
      let whole : piece ≡ puts.front = puts.parts ∙ ap (λ t. puts.front ++ t) none ∙ append-nil puts.front in
      record { is_open = is_open; text = puts.front; writes = puts.appends; answers = subst (λ t. AnswersOne A line t) whole a }

  -- a line that cannot be held
  pub stopped_extending : {T : Type 0} (line now part : List ℕ) (result : Result T Status) (status : Status) (told : Option (List ℕ))
      → result ≡ Err status → Extends line now part result → StoppedAt A (line ++ part) told told status
  stopped_extending line now part result status told e step =
      let kind = rw e at step.kind in
      elim kind [
        | inl long ↦ record { begun = []; writes = Appends-none told; stops = rw long (step.long (e ∙ ap Err long), refl) }
        | inr memory ↦ rw memory (stopped_unbegun (line ++ part) told ((step.memory (e ∙ ap Err memory)).1))
      ]

  -- ---- pieces

  -- nothing was fed
  pub feeds_none : (line : List ℕ) (told : Option (List ℕ)) → Feeds A line [] line told told
  feeds_none line told =
      record { ended = []; text = []; parts = append-nil line; lines = tt; short = tt; answers = refl; writes = Appends-none told }

  -- a piece was fed, and then another
  pub feeds_both : (a p b q c : List ℕ) (u v w : Option (List ℕ)) → Feeds A a p b u v → Feeds A b q c v w → Feeds A a (p ++ q) c u w
  feeds_both a p b q c u v w f g = record {
    ended = f.ended ++ g.ended;
    text = f.text ++ g.text;
    parts = sym (append_assoc a p q) ∙ ap (λ t. t ++ q) f.parts ∙ text_of-more f.ended b q
        ∙ ap (text_of f.ended) g.parts ∙ sym (text_of-append f.ended g.ended c);
    lines = AreLines-append f.ended g.ended f.lines g.lines;
    short = AreShort-append f.ended g.ended f.short g.short;
    answers = Answers-append A f.ended g.ended f.text g.text f.answers g.answers;
    writes = Appends-both u v w f.text g.text f.writes g.writes;
  }

  feeds_part : (line part now : List ℕ) (told : Option (List ℕ)) → now ≡ line ++ part → Feeds A line part now told told
  feeds_part line part now told e =
      record { ended = []; text = []; parts = sym e; lines = tt; short = tt; answers = refl; writes = Appends-none told }

  -- the end of a line that was answered
  feeds_line : (line part : List ℕ) (u v : Option (List ℕ)) → Answered A (line ++ part) u v → Feeds A line (part ++ 10 ∷ []) [] u v
  feeds_line line part u v a = record {
    ended = (line ++ part) ∷ [];
    text = a.text;
    parts = sym (append_assoc line part (10 ∷ []));
    lines = (a.is_open.one, tt);
    short = (a.is_open.short, tt);
    answers = one_answer (line ++ part) a.text a.answers;
    writes = a.writes;
  }

  -- a run that stops at the first line of these bytes
  pub stopped_first : (bytes line : List ℕ) (others : List (List ℕ)) (u v : Option (List ℕ)) (status : Status)
      → lines_of bytes ≡ line ∷ others → StoppedAt A line u v status → StoppedIn A bytes u v status
  stopped_first bytes line others u v status parts s = record {
    text = s.begun;
    writes = s.writes;
    answers = record {
      front = [];
      line = line;
      others = others;
      parts = parts;
      short = tt;
      answered = [];
      begun = s.begun;
      text_parts = refl;
      answers = refl;
      stops = s.stops;
    };
  }

  -- a run that stops in what comes after lines that were answered
  pub stopped_later : (a p b q : List ℕ) (u v w : Option (List ℕ)) (status : Status)
      → Feeds A a p b u v → StoppedIn A (b ++ q) v w status → StoppedIn A (a ++ (p ++ q)) u w status
  stopped_later a p b q u v w status f s =
      let g = s.answers in
      let bytes : a ++ (p ++ q) ≡ text_of f.ended (b ++ q) =
      sym (append_assoc a p q) ∙ ap (λ t. t ++ q) f.parts ∙ text_of-more f.ended b q in
      record {
        text = f.text ++ s.text;
        writes = Appends-both u v w f.text s.text f.writes s.writes;
        answers = record {
          front = f.ended ++ g.front;
          line = g.line;
          others = g.others;
          parts = ap lines_of bytes ∙ lines_of-text f.ended (b ++ q) f.lines ∙ ap (λ t. f.ended ++ t) g.parts
              ∙ sym (append_assoc f.ended g.front (g.line ∷ g.others));
          short = AreShort-append f.ended g.front f.short g.short;
          answered = f.text ++ g.answered;
          begun = g.begun;
          text_parts = ap (λ t. f.text ++ t) g.text_parts ∙ sym (append_assoc f.text g.answered g.begun);
          answers = Answers-append A f.ended g.front f.text g.answered f.answers g.answers;
          stops = g.stops;
        };
      }

  -- ---- the line that has no end

  pub rest_none : (line : List ℕ) (told : Option (List ℕ)) → line ≡ [] → AnswersRest A line told told
  rest_none line told e = record { text = []; writes = Appends-none told; answers = rw e refl }

  -- ---- the loop of `feed`

  -- before the first line ends
  pub fed_none : (a piece : List ℕ) (u : Option (List ℕ)) → IsOpenLine a → Fed A a piece piece a u u
  fed_none a piece u was = record { front = []; parts = refl; feeds = feeds_none a u; is_open = was }

  -- one more line ended
  pub fed_line : (a piece rest b part after c : List ℕ) (u v w : Option (List ℕ)) → Fed A a piece rest b u v
      → rest ≡ part ++ 10 ∷ after → c ≡ [] → Answered A (b ++ part) v w → Fed A a piece after c u w
  fed_line a piece rest b part after c u v w f cut e g = record {
    front = f.front ++ (part ++ 10 ∷ []);
    parts = cut_parts piece f.front rest part after f.parts cut;
    feeds = rw e (feeds_both a f.front b (part ++ 10 ∷ []) [] u v w f.feeds (feeds_line b part v w g));
    is_open = open_none c e;
  }

  -- the run stops at a line that ended
  pub fed_stops : (a piece rest b part after : List ℕ) (u v w : Option (List ℕ)) (status : Status) → Fed A a piece rest b u v
      → rest ≡ part ++ 10 ∷ after → IsOneLine part → StoppedAt A (b ++ part) v w status → StoppedIn A (a ++ piece) u w status
  fed_stops a piece rest b part after u v w status f cut one s =
      let whole : a ++ (f.front ++ (part ++ 10 ∷ after)) ≡ a ++ piece =
      ap (λ t. a ++ t) (ap (λ t. f.front ++ t) (sym cut) ∙ sym f.parts) in
      let first : lines_of (b ++ (part ++ 10 ∷ after)) ≡ (b ++ part) ∷ lines_of after =
      ap lines_of (sym (append_assoc b part (10 ∷ after))) ∙ one_line (b ++ part) after (Lacks-append 10 b part f.is_open.one one) in
      let stopped = stopped_first (b ++ (part ++ 10 ∷ after)) (b ++ part) (lines_of after) v w status first s in
      subst (λ t. StoppedIn A t u w status) whole (stopped_later a f.front b (part ++ 10 ∷ after) u v w status f.feeds stopped)

  -- after the last line that ended
  pub fed_open : {T : Type 0} (a piece rest b c : List ℕ) (u v : Option (List ℕ)) (result : Result T Status)
      → Fed A a piece rest b u v → Extends b c rest result → IsOneLine rest → OnOk result (IsOpenLine c)
  fed_open a piece rest b c u v (Ok x) f step one = still_open b c rest (Ok x) x refl step f.is_open one
  fed_open a piece rest b c u v (Err status) f step one = tt

  pub fed_whole : {T : Type 0} (a piece rest b c : List ℕ) (u v : Option (List ℕ)) (result : Result T Status)
      → Fed A a piece rest b u v → Extends b c rest result → OnOk result (Feeds A a piece c u v)
  fed_whole a piece rest b c u v (Ok x) f step = rw f.parts (feeds_both a f.front b rest c u v v f.feeds (feeds_part b rest c v step.added))
  fed_whole a piece rest b c u v (Err status) f step = tt

  -- the run stops at the line that has no end
  pub fed_stops_whole : {T : Type 0} (a piece rest b c : List ℕ) (u v : Option (List ℕ)) (result : Result T Status)
      → Fed A a piece rest b u v → Extends b c rest result → IsOneLine rest → IfErr result (StoppedIn A (a ++ piece) u v)
  fed_stops_whole a piece rest b c u v (Ok x) f step one = tt
  fed_stops_whole a piece rest b c u v (Err status) f step one =
      let alone = lines_of-alone (b ++ rest) (Lacks-append 10 b rest f.is_open.one one) (some_part b c rest status step f.is_open) in
      let stopped = stopped_first (b ++ rest) (b ++ rest) [] v v status alone (stopped_extending b c rest (Err status) status v refl step) in
      rw f.parts (stopped_later a f.front b rest u v v status f.feeds stopped)

-- a line that has no end and is not empty was answered, or stopped the run
pub rest_answered : (A : List ℕ → List ℕ → Type 0) {T : Type 0} (line : List ℕ) (u v : Option (List ℕ)) (result : Result T Status)
    → 0 < length line
    → OnOk result (Answered A line u v) → OnOk result (AnswersRest A line u v)
rest_answered A line u v (Ok x) some a =
    record { text = a.text; writes = a.writes; answers = rw (lines_of-alone line a.is_open.one some) (one_answer line a.text a.answers) }
rest_answered A line u v (Err status) some a = tt

pub rest_stopped : (A : List ℕ → List ℕ → Type 0) {T : Type 0} (line : List ℕ) (u v : Option (List ℕ)) (result : Result T Status)
    → 0 < length line → IsOneLine line
    → IfErr result (StoppedAt A line u v) → IfErr result (StoppedIn A line u v)
rest_stopped A line u v (Ok x) some one s = tt
rest_stopped A line u v (Err status) some one s = stopped_first line line [] u v status (lines_of-alone line one some) s
