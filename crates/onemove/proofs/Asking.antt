-- What is left to hand out, along the asks.
-- Assumes nothing.
use mathlib.Core.Path.{◌≡◌, refl, sym, ap, subst, ◌∙◌}
use mathlib.Core.Bool.{Bool, true, false}
use mathlib.Core.List.{List, [], ◌∷◌, ◌++◌}
use Prim.Native.Nat.{ℕ, ◌-◌, ◌≤◌, ◌<◌}
use native.Mathlib.Omega.{arith}
use lib.IntN.{ℤ}
use lib.ListN.{length, take, drop, length-drop}
use lib.Seq.{take_all, length-take-le}
use Rattle.octets.specs.Bytes.{laid}
use Rattle.moves.specs.Form.{record_size, record_bytes}
use Rattle.moves.specs.declared.Listed.{Listed}
use Rattle.panel.specs.Row.{unfit, settings_of}
use Rattle.settings.specs.Wrong.{settings_wrong}
use Rattle.packing.specs.of_answers.declared.Answer.{Answer}
use Rattle.ahead.specs.Ahead.{FoundAt}
use Rattle.ahead.specs.declared.ProgramAt.{ProgramAt}
use Rattle.ahead.proofs.Places.{FoundIn, program_on}
use Rattle.packing.specs.of_taking.Steps.{Task}
use Rattle.packing.specs.of_taking.Hands.{in_hand}
use Rattle.packing.specs.of_taking.declared.Hand.{Hand}
use Rattle.packing.specs.of_taking.declared.Hand.TheVariants.{Nothing, Block}
use Rattle.runbounds.specs.of_resuming.Handed.{Made, Left, Takes}
use Rattle.runbounds.specs.of_resuming.declared.Handed.TheVariants as handed
use Rattle.runbounds.specs.of_resuming.Engines.{ahead, joined, remaining}
use Rattle.runbounds.specs.of_paused.Kept.{Fitting, Answers}
use Rattle.runbounds.specs.of_paused.declared.Phase.{Phase}
use Rattle.runbounds.specs.of_paused.declared.Phase.TheVariants.{Running, Over}
use Rattle.runbounds.specs.of_paused.declared.Going.{Going}
use Rattle.starting.specs.of_returning.Standing.{phase_of, standing, left_for, task_for, Placed, PlacedOn}
use Rattle.starting.specs.Starts.{Ready}
use Rattle.stepping.proofs.of_holding.Handing.{none_in_hand}
use Rattle.stepping.specs.of_holding.Held.{Held}
use Rattle.stepping.specs.Meets.{TurnMeets}
use Rattle.stepping.specs.declared.Turned.{Turned}
use Rattle.inhand.specs.State.{state_words, hand_in, run_in, Given}
use Rattle.packing.specs.declared.Told.{Told}
use Rattle.packing.specs.declared.Told.TheVariants as told
use Rattle.runbounds.specs.of_runwords.Taken.{going_of, phase_of as word_phase}
use Rattle.inhand.specs.State.{is_empty_in, going_in, GiveMeets}
use Rattle.telling.proofs.Tells.{never}
use Rattle.settings.specs.declared.Settings.{Settings}
use Rattle.onemove.specs.OneMove.{running, Lent, Stood, Holds, Lawful, Touches, CanGoOn, CanTell, CanAsk, Exactly, AskMeets, NextMeets, FirstMeets, Gives}

-- ---- what is left, with records in hand
ahead_same : (t : Task) (g : Going) (k l : List Made) (p : Phase) → ahead t (phase_of p) (standing k g) ≡ ahead t (phase_of p) (standing l g)
unfolding ahead
ahead_same t g k l Running = refl
ahead_same t g k l (Over a) = refl

takes_first : (t : Task) (g : Going) (x : Listed) (l : List Made) → Takes (left_for t (x ∷ l) g) (handed.Move x) (left_for t l g)
unfolding Takes remaining joined
takes_first t g x l =
    let e = ahead_same t g (x ∷ l) l g.phase in
    (ap (λ (y : Left). x ∷ (l ++ y.records)) e, sym (ap (λ (y : Left). y.answer) e))

over_left : (t : Task) (g : Going) (a : Answer) → g.phase ≡ Over a → left_for t [] g ≡ record { records = []; answer = a }
unfolding remaining joined ahead
over_left t g a e = λ i. joined [] (ahead t (phase_of (e i)) (standing [] g))

takes_over : (x : Left) (a : Answer) → x ≡ record { records = []; answer = a } → Takes x (handed.Over a) x
unfolding Takes
takes_over x a e = (ap (λ (y : Left). y.records) e, ap (λ (y : Left). y.answer) e, refl)

answer_same : (x : Left) (l : Listed) (y : Left) → Takes x (handed.Move l) y → y.answer ≡ x.answer
unfolding Takes
answer_same x l y t = t.1

takes_by : (x y z : Left) (l : Listed) → x ≡ y → Takes x (handed.Move l) z → Takes y (handed.Move l) z
takes_by x y z l e t = subst (λ (u : Left). Takes u (handed.Move l) z) e t

module _ (tape : List ℕ) (table numbers : List ℤ) (places : List ℕ) where
  abbrev task_at : ℕ → ℕ → Task
  task_at end first = task_for (take end tape) table (running numbers) first

  -- ---- a record is handed out
  module _ (h k : Hand) (g : Going) (x : Left) (s : Stood tape table numbers places h g x) (l : Listed) (e : in_hand h ≡ l ∷ in_hand k) (held : Held k) where
    abbrev behind : Left
    behind = left_for (task_at g.end s.first) (in_hand k) g

    takes_move : Takes x (handed.Move l) behind
    takes_move =
        takes_by (left_for (task_at g.end s.first) (l ∷ in_hand k) g) x behind l
        (ap (λ (v : List Made). left_for (task_at g.end s.first) v g) (sym e) ∙ s.same) (takes_first (task_at g.end s.first) g l (in_hand k))

    stood_behind : Stood tape table numbers places k g behind
    stood_behind =
        record {
          held = held;
          kept = s.kept;
          state = s.state;
          lent = s.lent;
          first = s.first;
          same = refl;
          placed = s.placed;
          fits = subst Fitting (sym (answer_same x l behind takes_move)) s.fits;
        }

    pub move_lawful : (b v c : List ℕ) → length v ≡ state_words → hand_in v ≡ k → run_in v ≡ g → c ≡ laid b 0 (record_bytes l) → Lawful tape table numbers places x b told.Move v c
    move_lawful b v c long hand run bytes =
        record {
          handed = handed.Move l;
          left = behind;
          takes = takes_move;
          hands = bytes;
          holds = record { long = long; stood = λ-stood };
        }
      where
        λ-stood : Stood tape table numbers places (hand_in v) (run_in v) behind
        λ-stood =
            subst (λ (y : Hand). Stood tape table numbers places y (run_in v) behind) (sym hand) (subst (λ (y : Going). Stood tape table numbers places k y behind) (sym run) stood_behind)

  -- ---- the run is over
  over_is : (w : List ℕ) (x : Left) → Holds tape table numbers places w x → hand_in w ≡ Nothing → (a : Answer) → (run_in w).phase ≡ Over a → x ≡ record { records = []; answer = a }
  over_is w x m none a over =
      let s = m.stood in
      let t = task_at (run_in w).end s.first in
      sym s.same ∙ ap (λ (h : Hand). left_for t (in_hand h) (run_in w)) none ∙ ap (λ (l : List Made). left_for t l (run_in w)) none_in_hand ∙ over_left t (run_in w) a over

  pub over_lawful : (w : List ℕ) (x : Left) → Holds tape table numbers places w x → hand_in w ≡ Nothing → (a : Answer) → (run_in w).phase ≡ Over a → (b : List ℕ) → Lawful tape table numbers places x b (told.Over a) w b
  over_lawful w x m none a over b = record { handed = handed.Over a; left = x; takes = takes_over x a (over_is w x m none a over); hands = (refl, refl); holds = m }

  -- ---- turns
  module _ (g : Going) (x : Left) (s : Stood tape table numbers places Nothing g x) (on : g.phase ≡ Running) (t : Turned)
      (m : TurnMeets (take g.end tape) table (running numbers) places g t) where
    whole : left_for (task_at g.end s.first) [] g ≡ x
    whole = ap (λ (l : List Made). left_for (task_at g.end s.first) l g) (sym none_in_hand) ∙ s.same

    law_placed : Placed (take g.end tape) places s.first g
    law_placed = subst (λ (p : Phase). PlacedOn p (take g.end tape) places s.first g) on s.placed

    law_fits : Fitting (left_for (task_at g.end s.first) [] g).answer
    law_fits = subst (λ (y : Left). Fitting y.answer) (sym whole) s.fits

    lent_on : (p : Phase) → Lent p tape table numbers places t.going
    lent_on Running =
        let n = subst (λ (p : Phase). Lent p tape table numbers places g) on s.lent in
        (n.0, (n.1.0, omega (arith, m.end, n.1.1), omega (arith, m.filled, n.1.2)))
    lent_on (Over a) = tt

    stood_on : Stood tape table numbers places t.hand t.going x
    stood_on =
        let l = m.lawful s.first law_placed law_fits in
        record {
          held = m.held;
          kept = m.kept;
          state = m.state;
          lent = lent_on t.going.phase;
          first = s.first;
          same = ap (λ (e : ℕ). left_for (task_at e s.first) (in_hand t.hand) t.going) m.end ∙ l.same ∙ whole;
          placed = subst (λ (e : ℕ). PlacedOn t.going.phase (take e tape) places s.first t.going) (sym m.end) l.placed;
          fits = s.fits;
        }

    -- the first record of what they have come to, or the answer
    pub first_lawful : (b : List ℕ) (r : Told) (v c : List ℕ) → FirstMeets t b r v c → Lawful tape table numbers places x b r v c
    first_lawful b told.Move v c f =
        let o = f.gives in move_lawful t.hand (hand_in v) t.going x stood_on o.listed o.first f.held b v c f.long refl f.run o.bytes
    first_lawful b (told.Over a) v c f =
        let o = f.gives in
        let stood : Stood tape table numbers places (hand_in v) (run_in v) x =
        subst (λ (h : Hand). Stood tape table numbers places h (run_in v) x) (o.0 ∙ sym o.2) (subst (λ (y : Going). Stood tape table numbers places t.hand y x) (sym f.run) stood_on) in
        let over = ap (λ (y : Going). y.phase) f.run ∙ o.1 in
        subst (Lawful tape table numbers places x b (told.Over a) v) (sym o.3) (over_lawful v x (record { long = f.long; stood = stood }) o.2 a over b)
    first_lawful b told.Refused v c f = absurd f.gives

  -- ---- the next record of the present block
  pub given_lawful : (w : List ℕ) (x : Left) → Holds tape table numbers places w x → (b v c : List ℕ) → Given w b v c → Lawful tape table numbers places x b told.Move v c
  given_lawful w x m b v c g = move_lawful (hand_in w) (hand_in v) (run_in w) x m.stood g.listed g.first g.held b v c g.long refl g.run g.bytes

-- ---- the parts of the words
-- the words from a place to the end
pub to_end : (w : List ℕ) (n : ℕ) → take (length w - n) (drop n w) ≡ drop n w
to_end w n = take_all (length w - n) (drop n w) (omega (arith, length-drop n w))

pub empty_hand : (w : List ℕ) → is_empty_in w ≡ true → hand_in w ≡ Nothing
unfolding hand_in
empty_hand w e = rw e refl

pub run_phase : (w : List ℕ) → (run_in w).phase ≡ word_phase (going_in w)
unfolding run_in going_of
run_phase w = refl

pub run_is : (w : List ℕ) → going_of (going_in w) ≡ run_in w
unfolding run_in
run_is w = refl

-- a program's line stands before the tape's end
found_before : (tape : List ℕ) (first : ℕ) (p : ProgramAt) → FoundAt tape first p → p.line < length tape
found_before tape first p e = subst (FoundIn (length tape)) e (program_on p.number tape first)

-- ---- what an ask tells
abbrev kind_of : Told → ℕ
kind_of told.Move = 0
kind_of (told.Over a) = 1
kind_of told.Refused = 2

abbrev answer_in : Told → Answer → Answer
answer_in told.Move d = d
answer_in (told.Over a) d = a
answer_in told.Refused d = d

-- ---- what a run has come to
abbrev runs : Phase → ℕ
runs Running = 0
runs (Over a) = 1

abbrev answer_of : Phase → Answer → Answer
answer_of Running d = d
answer_of (Over a) d = a

-- ---- what is in hand
some_held : (tape : List ℕ) (table numbers : List ℤ) (places : List ℕ) (h : Hand) (g : Going) → CanAsk tape table numbers places h g → Held h
some_held tape table numbers places Nothing g k = record { sound = tt; some = tt }
some_held tape table numbers places (Block c o) g k = k

-- a block can be asked
block_asks : (tape : List ℕ) (table numbers : List ℤ) (places : List ℕ) (h : Hand) (g : Going) → (h ≡ Nothing → ⊥) → Held h → CanAsk tape table numbers places h g
block_asks tape table numbers places Nothing g n k = absurd (n refl)
block_asks tape table numbers places (Block c o) g n k = k

-- and so can what has a record, which is a block
held_asks : (tape : List ℕ) (table numbers : List ℤ) (places : List ℕ) (h : Hand) (g : Going) {l : Listed} {ls : List Made} → in_hand h ≡ l ∷ ls → Held h → CanAsk tape table numbers places h g
held_asks tape table numbers places Nothing g e k = absurd (omega (arith, ap length (sym none_in_hand ∙ e)))
held_asks tape table numbers places (Block c o) g e k = k

over_asks : (tape : List ℕ) (table numbers : List ℤ) (places w : List ℕ) → hand_in w ≡ Nothing → (a : Answer) → (run_in w).phase ≡ Over a → Fitting a → CanAsk tape table numbers places (hand_in w) (run_in w)
over_asks tape table numbers places w none a over fit =
    subst (λ (h : Hand). CanAsk tape table numbers places h (run_in w)) (sym none) (subst (λ (p : Phase). CanTell p tape table numbers places (run_in w)) (sym over) fit)

-- ---- what an ask comes to
module _ (tape : List ℕ) (table numbers : List ℤ) (places : List ℕ) where
  abbrev Meets : List ℕ → List ℕ → Told → List ℕ → List ℕ → Type 0
  Meets w b r v c = AskMeets tape table numbers places w b r v c

  -- words that hold nothing and cannot be asked are refused
  pub refused_ask : (w b v c : List ℕ) → v ≡ w → c ≡ b → ((x : Left) → Holds tape table numbers places w x → ⊥)
      → (length w ≡ state_words → CanAsk tape table numbers places (hand_in w) (run_in w) → ⊥) → Meets w b told.Refused v c
  refused_ask w b v c e f made cannot =
      record {
        lawful = λ x m. absurd (made x m);
        refused = λ _. e;
        exactly = λ l.
            record {
              able = λ k _. cannot l k;
              unable = λ _. refl;
              again = λ a none over fit. absurd (cannot l (over_asks tape table numbers places w none a over fit));
              given = λ n h. absurd (cannot l (block_asks tape table numbers places (hand_in w) (run_in w) n h));
            };
        touches = f;
        long = ap length e;
        fits = λ a z. absurd (omega (arith, ap kind_of z));
      }

  module _ (w b : List ℕ) (none : hand_in w ≡ Nothing) (on : (run_in w).phase ≡ Running) where
    lent_in : (x : Left) → Holds tape table numbers places w x → (unfit numbers ≡ false) × Ready Running tape table (settings_of numbers) places (run_in w)
    lent_in x m = subst (λ (p : Phase). Lent p tape table numbers places (run_in w)) on m.stood.lent

    -- what can be asked of it
    tells : CanAsk tape table numbers places (hand_in w) (run_in w) → CanTell Running tape table numbers places (run_in w)
    tells k = subst (λ (p : Phase). CanTell p tape table numbers places (run_in w)) on (subst (λ (h : Hand). CanAsk tape table numbers places h (run_in w)) none k)

    asks : CanTell Running tape table numbers places (run_in w) → CanAsk tape table numbers places (hand_in w) (run_in w)
    asks k = subst (λ (h : Hand). CanAsk tape table numbers places h (run_in w)) (sym none) (subst (λ (p : Phase). CanTell p tape table numbers places (run_in w)) (sym on) k)

    pub unfit_ask : unfit numbers ≡ true → Meets w b told.Refused w b
    unfit_ask e = refused_ask w b w b refl refl (λ x m. never (sym (lent_in x m).0 ∙ e)) (λ _ k. never (sym (tells k).0 ∙ e))

    pub wrong_ask : {s : Settings} → s ≡ settings_of numbers → settings_wrong table s ≡ true → Meets w b told.Refused w b
    wrong_ask is e = refused_ask w b w b refl refl (λ x m. never (sym (lent_in x m).1.0 ∙ ap (settings_wrong table) (sym is) ∙ e))
        (λ _ k. never (sym (tells k).1 ∙ ap (settings_wrong table) (sym is) ∙ e))

    -- the present program is on the tape, so that something of it was read
    read_some : (x : Left) → Holds tape table numbers places w x → 0 < (run_in w).end
    read_some x m =
        let k = subst (λ (p : Phase). PlacedOn p (take (run_in w).end tape) places m.stood.first (run_in w)) on m.stood.placed in
        let l = found_before (take (run_in w).end tape) m.stood.first (run_in w).frame.program k.there in
        omega (arith, l, length-take-le (run_in w).end tape (lent_in x m).1.1)

    pub cannot_ask : {g : Going} → g ≡ run_in w → (CanGoOn (length tape) (length places) g → ⊥) → Meets w b told.Refused w b
    cannot_ask is stuck =
        refused_ask w b w b refl refl
        (λ x m. stuck (subst (CanGoOn (length tape) (length places)) (sym is) (record { kept = m.stood.kept; state = m.stood.state; some = read_some x m; end = (lent_in x m).1.1; filled = (lent_in x m).1.2 })))
        (λ _ k. stuck (subst (CanGoOn (length tape) (length places)) (sym is) (tells k).2))

    touched : (t : Turned) (r : Told) (v c : List ℕ) → FirstMeets t b r v c → Touches r b c
    touched t told.Move v c f = record { listed = f.gives.listed; is = f.gives.bytes }
    touched t (told.Over a) v c f = f.gives.3
    touched t told.Refused v c f = absurd f.gives

    not_refused : (t : Turned) (r : Told) (v c : List ℕ) → FirstMeets t b r v c → r ≡ told.Refused → v ≡ w
    not_refused t r v c f e = absurd (subst (λ (y : Told). Gives y t.hand t.going.phase b v c) e f.gives)

    pub turned_ask : length w ≡ state_words → CanTell Running tape table numbers places (run_in w) → {g : Going} → g ≡ run_in w → {s : Settings} → s ≡ running numbers → (t : Turned) → TurnMeets (take g.end tape) table s places g t → (r : Told) (v c : List ℕ)
        → FirstMeets t b r v c → Meets w b r v c
    turned_ask long can {g} is {s} sets t m r v c f =
        record {
          lawful = λ x k.
              first_lawful tape table numbers places g x
              (subst (λ (h : Hand). Stood tape table numbers places h g x) none (subst (λ (y : Going). Stood tape table numbers places (hand_in w) y x) (sym is) k.stood))
              (ap (λ (y : Going). y.phase) is ∙ on) t (subst (λ (y : Settings). TurnMeets (take g.end tape) table y places g t) sets m) b r v c f;
          refused = not_refused t r v c f;
          exactly = λ _.
              record {
                able = λ k z. subst (λ (y : Told). Gives y t.hand t.going.phase b v c) z f.gives;
                unable = λ n. absurd (n (asks can));
                again = λ a _ over _. absurd (omega (arith, ap runs (sym over ∙ on)));
                given = λ n _. absurd (n none);
              };
          touches = touched t r v c f;
          long = f.long ∙ sym long;
          fits = λ a z. subst Answers (subst (λ (y : Told). Gives y t.hand t.going.phase b v c) z f.gives).1 m.kept.answer;
        }

  -- ---- a block that has records
  pub given_ask : (w b v c : List ℕ) (r : Bool) → length w ≡ state_words → GiveMeets w b r v c → r ≡ true → Meets w b told.Move v c
  given_ask w b v c r long g e =
      let k = g.gives e in
      record {
        lawful = λ x m. given_lawful tape table numbers places w x m b v c k;
        refused = λ z. absurd (omega (arith, ap kind_of z));
        exactly = λ _.
            record {
              able = λ _ z. absurd (omega (arith, ap kind_of z));
              unable = λ n. absurd (n (held_asks tape table numbers places (hand_in w) (run_in w) k.first (g.held e)));
              again = λ a none _ _. absurd (omega (arith, ap length (sym none_in_hand ∙ ap in_hand (sym none) ∙ k.first)));
              given = λ _ _. (refl, k);
            };
        touches = record { listed = k.listed; is = k.bytes };
        long = k.long ∙ sym long;
        fits = λ a z. absurd (omega (arith, ap kind_of z));
      }

  pub not_given_ask : (w b v c : List ℕ) (r : Bool) → GiveMeets w b r v c → r ≡ false → Meets w b told.Refused v c
  not_given_ask w b v c r g e =
      let k = g.refuses e in
      refused_ask w b v c k.0 k.1 (λ x m. never (sym e ∙ g.right m.stood.held))
      (λ _ h. never (sym e ∙ g.right (some_held tape table numbers places (hand_in w) (run_in w) h)))

  -- ---- the answer again
  module _ (w b : List ℕ) (none : hand_in w ≡ Nothing) where
    pub over_ask : (a : Answer) → (run_in w).phase ≡ Over a → Fitting a → Meets w b (told.Over a) w b
    over_ask a over fit =
        record {
          lawful = λ x m. over_lawful tape table numbers places w x m none a over b;
          refused = λ z. refl;
          exactly = λ _.
              record {
                able = λ _ z. absurd (omega (arith, ap kind_of z));
                unable = λ n. absurd (n (over_asks tape table numbers places w none a over fit));
                again = λ d _ too _. (ap told.Over (ap (λ (p : Phase). answer_of p a) (sym over ∙ too)), refl);
                given = λ n _. absurd (n none);
              };
          touches = refl;
          long = refl;
          fits = λ d z. subst Fitting (ap (λ (y : Told). answer_in y a) z) fit;
        }

    -- an answer whose place or count has more than 16 bits is that of no run
    pub unfitting_ask : (p : Phase) → (run_in w).phase ≡ p → (Answers p → ⊥) → Meets w b told.Refused w b
    unfitting_ask Running is n = absurd (n tt)
    unfitting_ask (Over a) is n =
        refused_ask w b w b refl refl (λ x m. n (subst (λ (y : Left). Fitting y.answer) (over_is tape table numbers places w x m none a is) m.stood.fits))
        (λ _ k. n (subst (λ (p : Phase). CanTell p tape table numbers places (run_in w)) is (subst (λ (h : Hand). CanAsk tape table numbers places h (run_in w)) none k)))

  -- ---- any words and any bytes
  abbrev NextIs : List ℕ → List ℕ → Told → List ℕ → List ℕ → Type 0
  NextIs w b r v c = NextMeets tape table numbers places w b r v c

  pub next_other : (w b : List ℕ) → (length w ≡ state_words → ⊥) → NextIs w b told.Refused w b
  next_other w b n =
      record {
        asks = λ _. refused_ask w b w b refl refl (λ x m. n m.long) (λ l _. n l);
        short = λ _. record { told = refl; words = refl; bytes = refl };
        other = λ _. record { told = refl; words = refl; bytes = refl };
        fits = λ a z. absurd (omega (arith, ap kind_of z));
      }

  pub next_short : (w b : List ℕ) → length b < record_size → NextIs w b told.Refused w b
  next_short w b n =
      record {
        asks = λ h. absurd (omega (arith, n, h));
        short = λ _. record { told = refl; words = refl; bytes = refl };
        other = λ _. record { told = refl; words = refl; bytes = refl };
        fits = λ a z. absurd (omega (arith, ap kind_of z));
      }

  pub next_asks : (w b : List ℕ) → length w ≡ state_words → record_size ≤ length b → (r : Told) (v c : List ℕ) → Meets w b r v c → NextIs w b r v c
  next_asks w b long room r v c m = record { asks = λ _. m; short = λ h. absurd (omega (arith, room, h)); other = λ n. absurd (n long); fits = m.fits }
