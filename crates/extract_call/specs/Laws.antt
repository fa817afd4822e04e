-- Words of the laws on calls in place of windows.
use Rattle.std.specs.Prelude.{◌≡◌, ℕ, suc, ◌+◌, ◌*◌, ◌≤◌, Bool, true, false, List, [], Option, Some, slice_get}
use Rattle.go_types.specs.Trees.{TypeTree}
use Rattle.go_typed.specs.Trees.{Typeds}
use Rattle.go_meaning.specs.Values.{Value}
use Rattle.go_meaning.specs.Computations.{World, Ending, Next, Return, Break, Continue, Fallthrough, Panics, Outcome, Ends, Undecided, output_of, go_on, leave, Comp, in_order}
use Rattle.go_meaning.specs.Doings.{values_of}
use Rattle.go_meaning.specs.Meaning.{meanings, Code, frame_of, has_body, called, Program, bounded}
use Rattle.go_meaning.specs.Laws.{IsPrefix}
use Rattle.go_meaning_simulation.specs.Locals.{Agree}
use Rattle.go_meaning_numbers.specs.Moved.{moved, world_moved}
use Rattle.go_meaning_numbers.specs.Laws.{Moves}
use Rattle.extract_call.specs.Calls.{Argument, arguments, results, stored, Fresh, ready, IsGap, IsTail, IsBody}
use Rattle.extract_call.specs.Extraction.{Extracts}

-- what statements do in order, where at most n calls and turns are inside one another below them
abbrev pub row : Program → ℕ → Typeds TypeTree → Comp
row P n ts = in_order (values_of (meanings P.rights (λ g vs. called (bounded P n) vs (slice_get P.functions g)) (bounded P n) ts))

-- What the caller, with the frame f, makes of what the statements of the new function came to: their ways to go on are its return
-- of the locals rs, whose values go to the targets os.
abbrev pub come_back : List (Option ℕ) → List ℕ → List Value → Outcome → Outcome
come_back os rs f oc = go_on (leave f (go_on oc (λ vs g w t. Ends (Return (results g rs)) g w t))) (λ vs g w t. Ends (Next []) (stored os vs g) w t)

-- a new function in its package, and a gap that calls it
pub record Gap (Q : Program) : Type 0 where
  pub h : ℕ
  pub new : Code
  pub there : slice_get Q.functions h ≡ Some new
  pub has : has_body new ≡ true
  pub statements : Typeds TypeTree
  pub given : List ℕ
  pub is_body : IsBody Q.rights statements given new.body
  pub args : List Argument
  pub targets : List (Option ℕ)
  pub fresh : List Fresh
  pub gap : Typeds TypeTree
  pub is_gap : IsGap Q.rights h args targets fresh gap

-- the frame of the caller at the call, and that of the call
module _ (Q : Program) (x : Gap Q) where
  abbrev pub at_call : List Value → List Value
  at_call f = ready x.fresh f

  abbrev pub in_call : List Value → List Value
  in_call f = frame_of x.new (arguments (at_call f) x.args)

-- One turn and one level later, the gap comes to what the statements of the new function come to.
abbrev pub CallsOneTurnLater : (Q : Program) → Gap Q → Type 0
CallsOneTurnLater Q x =
    (n depth : ℕ) (f : List Value) (w : World) (turns : ℕ) →
    row Q (suc n) x.gap (suc depth) f w (suc turns) ≡ come_back x.targets x.given (at_call Q x f) (row Q n x.statements depth (in_call Q x f) w turns)

-- Without a turn, a level, or a call that may be inside, it is undecided at once.
abbrev pub StopsAtOnce : (Q : Program) → Gap Q → Type 0
StopsAtOnce Q x =
    (n depth : ℕ) (f : List Value) (w : World) (turns : ℕ) →
    (row Q n x.gap depth f w 0 ≡ Undecided w.output) × (row Q n x.gap 0 f w (suc turns) ≡ Undecided w.output) × (row Q 0 x.gap (suc depth) f w (suc turns) ≡ Undecided w.output)

-- ---- a call that is returned, in place of a window that ends in a return

-- what is returned of what a call gives: all or nothing
abbrev pub kept : Bool → List Value → List Value
kept true vs = vs
kept false vs = []

-- what the caller, with the frame f, makes of what the statements of the new function came to
abbrev pub give_back : Bool → List Value → Outcome → Outcome
give_back keeps f oc = go_on (leave f (go_on oc (λ vs g w t. Ends (Return []) g w t))) (λ vs g w t. Ends (Return (kept keeps vs)) g w t)

-- a new function with no return of its own behind its statements, and a return of its call
pub record Tail (Q : Program) : Type 0 where
  pub h : ℕ
  pub new : Code
  pub there : slice_get Q.functions h ≡ Some new
  pub has : has_body new ≡ true
  pub statements : Typeds TypeTree
  pub is_body : IsBody Q.rights statements [] new.body
  pub args : List Argument
  pub keeps : Bool
  pub tail : Typeds TypeTree
  pub is_tail : IsTail Q.rights h args keeps tail

abbrev pub TailCallsOneTurnLater : (Q : Program) → Tail Q → Type 0
TailCallsOneTurnLater Q x =
    (n depth : ℕ) (f : List Value) (w : World) (turns : ℕ) →
    row Q (suc n) x.tail (suc depth) f w (suc turns) ≡ give_back x.keeps f (row Q n x.statements depth (frame_of x.new (arguments f x.args)) w turns)

-- ---- a window, and the call in its place

module _ (s : ℕ → ℕ) where
  abbrev pub ending_moved : Ending → Ending
  ending_moved (Next vs) = Next (moved s vs)
  ending_moved (Return vs) = Return (moved s vs)
  ending_moved Break = Break
  ending_moved Continue = Continue
  ending_moved Fallthrough = Fallthrough
  ending_moved (Panics p) = Panics p

  -- after a panic no frame counts
  abbrev pub FramesAfter : (List Value → List Value → Type 0) → Ending → List Value → List Value → Type 0
  FramesAfter R (Panics p) f f' = Unit {0}
  FramesAfter R e f f' = R f f'

  -- The new outcome, as a function of the turns, ends as the old one did from t turns on: at no more than a turns for each of the old
  -- ones and m more. Where the old one was undecided, it has printed the same first.
  abbrev pub EndsLikewise : (List Value → List Value → Type 0) → (a m t : ℕ) → (ℕ → Outcome) → Outcome → Type 0
  EndsLikewise R a m t new (Ends e f w left) =
      (f' : List Value) × (u : ℕ) × FramesAfter R e f f' × (u + a * left ≤ a * t + m) × ((x : ℕ) → new (u + x) ≡ Ends (ending_moved e) f' (world_moved s w) x)
  EndsLikewise R a m t new (Undecided o) = (x : ℕ) → a * t + m ≤ x → IsPrefix o (output_of (new x))

  -- The same the other way round: the new outcome is there, and the old one, as a function of the turns, ends as it does.
  abbrev pub EndedLikewise : (List Value → List Value → Type 0) → (t : ℕ) → (ℕ → Outcome) → Outcome → Type 0
  EndedLikewise R t old (Ends e' f' w' left) =
      (e : Ending) × (f : List Value) × (w : World) × (u : ℕ) × (e' ≡ ending_moved e) × FramesAfter R e f f' × (w' ≡ world_moved s w) × (u + left ≤ t) × ((x : ℕ) → old (u + x) ≡ Ends e f w x)
  EndedLikewise R t old (Undecided o) = (x : ℕ) → t ≤ x → IsPrefix o (output_of (old x))

  module _ (k : ℕ) (P Q : Program) (x : Extracts s k P Q) (j : ℕ) where
    abbrev pub FramesAgree : List Value → List Value → Type 0
    FramesAgree f f' = Agree (Moves s) (x.windows.bodies (x.windows.member j).function) f f'

    -- The call in place of a window ends as the window does, at one turn more, and the frames of the function agree again. Inside it
    -- may be twice as deep.
    abbrev pub CallDoesAsWindow : Type 0
    CallDoesAsWindow =
        (n n' depth depth' : ℕ) (f f' : List Value) (w : World) (turns : ℕ) → 2 * n ≤ n' → 2 * depth + 1 ≤ depth' → FramesAgree f f' →
        EndsLikewise FramesAgree (k + 1) 1 turns (row Q (suc n') (x.windows.member j).gap depth' f' (world_moved s w)) (row P n (x.windows.member j).old depth f w turns)

    -- The window ends as the call in its place does, at no more turns and no deeper.
    abbrev pub WindowDoesAsCall : Type 0
    WindowDoesAsCall =
        (n n' depth depth' : ℕ) (f f' : List Value) (w : World) (turns : ℕ) → n ≤ n' → depth ≤ depth' → FramesAgree f f' →
        EndedLikewise FramesAgree turns (row P n' (x.windows.member j).old depth' f w) (row Q n (x.windows.member j).gap depth f' (world_moved s w) turns)
