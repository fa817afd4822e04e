-- Where a run stands between two commands.
use Rattle.std.proofs.Common.{◌≡◌, ◌≤◌, ℕ, ◌+◌, ◌-◌, suc, nat_lt, List, [], ◌∷◌, ◌++◌, length, take, Option, Some, Ok, Err, inl, inr, refl, sym, ap, subst, ◌∙◌, arith, append_assoc, length-append}
use Rattle.std.proofs.lemmas.List.{append-nil}
use Rattle.go_base.specs.declared.bytes.FileText.{FileText}
use Rattle.port_io.specs.Held.{Held}
use Rattle.clone_script.specs.declared.command.Command.{Command}
use Rattle.clone_script.specs.declared.command.Command.TheVariants as command
use Rattle.clone_script.specs.Grammar.{spelling, BeginsWith}
use Rattle.clone_script.specs.Script.{most_script, Follow, Ends}
use Rattle.clone_server.specs.declared.step.End.{End}
use Rattle.clone_server.specs.declared.step.Step.TheVariants as steps
use Rattle.clone_server.specs.declared.step.IntakeError.{IntakeError}
use Rattle.clone_server.specs.declared.step.IntakeError.TheVariants as intake
use Rattle.clone_server.specs.Taking.{Taken, Comes, outcome_of}
use Rattle.clone_server.specs.declared.stop.Stop.{Stop}
use Rattle.clone_server.specs.declared.stop.Stop.TheVariants as stop
use Rattle.clone_server.specs.Session as session
use Rattle.clone_server.specs.Session.{Answering, State, Replies}
use Rattle.clone_server.specs.Serving.{intake_stop, Serves, Reached, Within, Runs}

-- ---- one command more

pub follow_more : (cs : List Command) (bytes rest others : List ℕ) (c : Command) → Follow cs bytes rest → (c ≡ command.Quit → ⊥) → BeginsWith rest c others → Follow (cs ++ c ∷ []) bytes others
follow_more [] bytes rest others c f n b = (n, others, subst (λ z. BeginsWith z c others) (sym f) b, refl)
follow_more (d ∷ ds) bytes rest others c f n b = (f.0, f.1, f.2, follow_more ds f.1 rest others c f.3 n b)

-- the same commands at the front of more bytes
pub follow_behind : (cs : List Command) (bytes rest more : List ℕ) → Follow cs bytes rest → Follow cs (bytes ++ more) (rest ++ more)
follow_behind [] bytes rest more f = ap (λ b. b ++ more) f
follow_behind (c ∷ cs) bytes rest more f =
    (f.0, f.1 ++ more, (f.2.0, ap (λ b. b ++ more) f.2.1 ∙ append_assoc (spelling c) f.1 more), follow_behind cs f.1 rest more f.3)

pub replies_more : (A : Answering) (dir : List ℕ) (s : State) (cs : List Command) (bytes : List ℕ) (t : State) (c : Command) (reply : List ℕ) (u : State) →
    Replies A dir s cs bytes t → session.Step A dir t c reply u → Replies A dir s (cs ++ c ∷ []) (bytes ++ reply) u
replies_more A dir s [] bytes t c reply u r h =
    (reply, [], u, subst (λ z. session.Step A dir z c reply u) r.1 h, (refl, refl), ap (λ b. b ++ reply) r.0 ∙ sym (append-nil reply))
replies_more A dir s (d ∷ ds) bytes t c reply u r h =
    (r.0, r.1 ++ reply, r.2, r.3, replies_more A dir r.2 ds r.1 t c reply u r.4 h, ap (λ b. b ++ reply) r.5 ∙ append_assoc r.0 r.1 reply)

-- ---- standing

pub record Stands (A : Answering) (dir : List ℕ) (start : State) (script before : List ℕ) (taken : Taken) (files : List FileText) (after : Option Held) (written left : Option (List ℕ)) : Type 0 where
  pub bytes : List ℕ
  pub held : Held
  pub reached : Reached A dir start script taken.pending bytes (record { files = files; held = held })
  pub count : taken.count ≡ length reached.taken
  pub held_is : after ≡ Some held
  pub written_is : written ≡ Some (before ++ bytes)
  pub left_is : left ≡ Some reached.rest

pub stands_first : (A : Answering) (dir : List ℕ) (files : List FileText) (held : Held) (script before : List ℕ) (after : Option Held) (written left : Option (List ℕ)) →
    after ≡ Some held → written ≡ Some before → left ≡ Some script → Stands A dir (record { files = files; held = held }) script before (record { pending = []; count = 0 }) files after written left
stands_first A dir files held script before after written left eh ew el = record {
  bytes = [];
  held = held;
  reached = record { commands = []; taken = []; rest = script; whole = refl; few = omega arith; follow = refl; answered = (refl, refl) };
  count = refl;
  held_is = eh;
  written_is = ew ∙ ap Some (sym (append-nil before));
  left_is = el;
}

module _ (A : Answering) (dir : List ℕ) (start : State) (script before : List ℕ) (taken : Taken) (files : List FileText) (after : Option Held) (written left : Option (List ℕ)) (s : Stands A dir start script before taken files after written left) where
  -- more of the script was taken
  reached_more : (more rest : List ℕ) → s.reached.rest ≡ more ++ rest → length s.reached.taken + length more ≤ most_script → Reached A dir start script (taken.pending ++ more) s.bytes (record { files = files; held = s.held })
  reached_more more rest e few = record {
    commands = s.reached.commands;
    taken = s.reached.taken ++ more;
    rest = rest;
    whole = s.reached.whole ∙ ap (λ l. s.reached.taken ++ l) e ∙ sym (append_assoc s.reached.taken more rest);
    few = omega (arith, few, length-append s.reached.taken more);
    follow = follow_behind s.reached.commands s.reached.taken taken.pending more s.reached.follow;
    answered = s.reached.answered;
  }

  -- the next command was served
  pub stands_more : (c : Command) (new : Taken) (later : Option (List ℕ)) (files2 : List FileText) (after2 : Option Held) (written2 : Option (List ℕ)) →
      Comes taken s.reached.rest (Ok (steps.Command c)) new later → new.count ≤ most_script →
      Serves A dir (record { files = files; held = s.held }) c (before ++ s.bytes) (Ok tt) files2 after2 written2 → Stands A dir start script before new files2 after2 written2 later
  unfolding reached_more
  stands_more c new later files2 after2 written2 k few v =
      let r = reached_more k.1 k.2 k.3 (omega (arith, few, k.6, s.count)) in
      record {
        bytes = s.bytes ++ v.0;
        held = v.1;
        reached = record {
          commands = s.reached.commands ++ c ∷ [];
          taken = r.taken;
          rest = k.2;
          whole = r.whole;
          few = r.few;
          follow = follow_more s.reached.commands r.taken (taken.pending ++ k.1) new.pending c r.follow k.0 k.5;
          answered = replies_more A dir start s.reached.commands s.bytes (record { files = files; held = s.held }) c v.0 (record { files = files2; held = v.1 }) s.reached.answered v.3;
        };
        count = omega (arith, k.6, s.count, length-append s.reached.taken k.1);
        held_is = v.2;
        written_is = v.4 ∙ ap Some (append_assoc before s.bytes v.0);
        left_is = k.4;
      }

  -- it stopped within the next command
  pub stops_within : (c : Command) (new : Taken) (later : Option (List ℕ)) (e : Stop) (files2 : List FileText) (after2 : Option Held) (written2 : Option (List ℕ)) →
      Comes taken s.reached.rest (Ok (steps.Command c)) new later → new.count ≤ most_script →
      Serves A dir (record { files = files; held = s.held }) c (before ++ s.bytes) (Err e) files2 after2 written2 → Runs A dir start script before (Err e) files2 after2 written2 later
  stops_within c new later e files2 after2 written2 k few v = by_stop e v
    where
      within : (d : Stop) → Serves A dir (record { files = files; held = s.held }) c (before ++ s.bytes) (Err d) files2 after2 written2 → Within A dir start script before d files2 after2 written2
      within d w = record {
        pending = taken.pending ++ k.1;
        bytes = s.bytes;
        now = record { files = files; held = s.held };
        reached = reached_more k.1 k.2 k.3 (omega (arith, few, k.6, s.count));
        next = c;
        others = new.pending;
        goes_on = k.0;
        begins = k.5;
        stops = w;
      }

      by_stop : (d : Stop) → Serves A dir (record { files = files; held = s.held }) c (before ++ s.bytes) (Err d) files2 after2 written2 → Runs A dir start script before (Err d) files2 after2 written2 later
      by_stop stop.Folder w = w
      by_stop stop.Script w = absurd w
      by_stop stop.Save w = within stop.Save w
      by_stop stop.Sink w = within stop.Sink w
      by_stop stop.Memory w = inl (within stop.Memory w)

  -- the script ended
  pub stands_end : (end : End) (new : Taken) (later : Option (List ℕ)) (files2 : List FileText) → taken.count ≤ most_script → Comes taken s.reached.rest (Ok (steps.End end)) new later → Runs A dir start script before (Ok end) files2 after written later
  stands_end end new later files2 few k =
      let front = take (most_script - taken.count) s.reached.rest in
      let whole : take most_script script ≡ s.reached.taken ++ front =
      ap (take most_script) s.reached.whole
      ∙ ap (λ n. take n (s.reached.taken ++ s.reached.rest)) (let e : most_script ≡ length s.reached.taken + (most_script - taken.count) = omega (arith, few, s.count) in e)
      ∙ take_over (most_script - taken.count) s.reached.taken s.reached.rest in
      let all : taken.count + length s.reached.rest ≡ length script = omega (arith, s.count, ap length s.reached.whole, length-append s.reached.taken s.reached.rest) in
      let size : taken.count + length front ≡ length (take most_script script) = omega (arith, s.count, ap length whole, length-append s.reached.taken front) in
      record {
        commands = s.reached.commands;
        rest = taken.pending ++ front;
        bytes = s.bytes;
        now = record { files = files; held = s.held };
        follow = subst (λ b. Follow s.reached.commands b (taken.pending ++ front)) (sym whole) (follow_behind s.reached.commands s.reached.taken taken.pending front s.reached.follow);
        ends = subst (λ n. Ends (nat_lt most_script (length script)) n (taken.pending ++ front) (outcome_of end)) size
            (subst (λ n. Ends (nat_lt most_script n) (taken.count + length front) (taken.pending ++ front) (outcome_of end)) all k);
        answered = s.reached.answered;
        held = s.held_is;
        written_is = s.written_is;
      }
    where
      take_over : (n : ℕ) (xs ys : List ℕ) → take (length xs + n) (xs ++ ys) ≡ xs ++ take n ys
      take_over n [] ys = ap (λ k. take k ys) (let e : 0 + n ≡ n = omega arith in e)
      take_over n (x ∷ xs) ys = ap (λ k. take k (x ∷ (xs ++ ys))) (let e : suc (length xs) + n ≡ suc (length xs + n) = omega arith in e) ∙ ap (λ l. x ∷ l) (take_over n xs ys)

  -- no more was taken
  pub stands_still : (e : IntakeError) (new : Taken) (later : Option (List ℕ)) (files2 : List FileText) → new.count ≤ most_script → Comes taken s.reached.rest (Err e) new later → Runs A dir start script before (Err (intake_stop e)) files2 after written later
  unfolding reached_more
  stands_still intake.Failed new later files2 few k =
      let r = reached_more k.0 k.1 k.2 (omega (arith, few, k.5, s.count)) in
      (taken.pending ++ k.0, k.4, record { bytes = s.bytes; now = record { files = files; held = s.held }; reached = r; held = s.held_is; written_is = s.written_is; left_is = k.3 })
  stands_still intake.Memory new later files2 few k = inr (taken.pending, left, record { bytes = s.bytes; now = record { files = files; held = s.held }; reached = s.reached; held = s.held_is; written_is = s.written_is; left_is = s.left_is })
