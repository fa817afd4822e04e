-- What came of a script so far, and what is found in it.
use Rattle.std.proofs.Common.{◌≡◌, ◌⊎◌, ℕ, suc, ◌+◌, ◌-◌, ◌<◌, ◌≤◌, nat_lt, List, [], ◌∷◌, ◌++◌, length, take, Option, Some, None, Ok, Err, inl, inr, refl, sym, ap, subst, ◌∙◌, arith, append_assoc, length-append}
use Rattle.std.proofs.lemmas.List.{append-nil}
use Rattle.clone_script.specs.declared.command.Command.{Command}
use Rattle.clone_script.specs.declared.command.Command.TheVariants as command
use Rattle.clone_script.specs.Grammar.{spelling, BeginsWith, IsBeginning, IsBad}
use Rattle.clone_script.specs.Script.{most_script, Outcome, done, bad_at, Ends, at_end}
use Rattle.clone_server.specs.declared.step.End.{End}
use Rattle.clone_server.specs.declared.step.End.TheVariants as ends
use Rattle.clone_server.specs.declared.step.Step.{Step}
use Rattle.clone_server.specs.declared.step.Step.TheVariants as steps
use Rattle.clone_server.specs.declared.step.IntakeError.{IntakeError}
use Rattle.clone_server.specs.declared.step.IntakeError.TheVariants as errors
use Rattle.clone_server.specs.Taking.{Taken, IsWithin, outcome_of, TakesPiece, Finds, EndsBehind, Gets, Comes}

-- ---- a failed read

pub gets_behind : (old : Taken) (left : List ℕ) (e : IntakeError) (after : Option (List ℕ)) → EndsBehind old left (Err e) after → Gets old left (Err e) old after
gets_behind old left errors.Failed after h = (h, refl)
gets_behind old left errors.Memory after h = tt

pub gets_piece : (old : Taken) (left : List ℕ) (e : IntakeError) (after : Option (List ℕ)) → TakesPiece left (Err e) after → Gets old left (Err e) old after
gets_piece old left errors.Failed after h = (h, refl)
gets_piece old left errors.Memory after h = tt

-- ---- commands have bytes

some_byte : (c : Command) → 0 < length (spelling c)
some_byte (command.Edit name start end text) = omega arith
some_byte (command.Add name text) = omega arith
some_byte (command.Remove name) = omega arith
some_byte command.Classes = omega arith
some_byte command.Maximal = omega arith
some_byte command.Stat = omega arith
some_byte (command.Extract class name choice) = omega arith
some_byte (command.Run turns input) = omega arith
some_byte (command.Show name) = omega arith
some_byte command.Save = omega arith
some_byte command.Quit = omega arith

pub shorter : (bytes others : List ℕ) (c : Command) → BeginsWith bytes c others → length others < length bytes
shorter bytes others c h = let size : length bytes ≡ length (spelling c) + length others = ap length h.1 ∙ length-append (spelling c) others in omega (arith, some_byte c, size)

-- ---- more bytes behind

pub begins_more : (bytes more : List ℕ) (c : Command) (others : List ℕ) → BeginsWith bytes c others → BeginsWith (bytes ++ more) c (others ++ more)
begins_more bytes more c others h = (h.0, ap (λ b. b ++ more) h.1 ∙ append_assoc (spelling c) others more)

-- one of two lists with equal continuations is the front of the other
parted : (a b x y : List ℕ) → a ++ x ≡ b ++ y → ((r : List ℕ) × (a ≡ b ++ r)) ⊎ ((n : ℕ) × (r : List ℕ) × (b ≡ a ++ (n ∷ r)))
parted a [] x y e = inl (a, refl)
parted [] (n ∷ b) x y e = inr (n, b, refl)
parted (m ∷ a) (n ∷ b) x y e =
    let head : m ≡ n = cc in
    let tail : a ++ x ≡ b ++ y = cc in
    elim (parted a b x y tail) [
      | inl w ↦ inl (w.0, ap (λ k. k ∷ a) head ∙ ap (λ l. n ∷ l) w.1)
      | inr w ↦ inr (w.0, w.1, ap (λ k. k ∷ b) (sym head) ∙ ap (λ l. m ∷ l) w.2)
    ]

some_front : (more : List ℕ) (n : ℕ) (r : List ℕ) → (m : ℕ) × (s : List ℕ) × (more ++ (n ∷ r) ≡ m ∷ s)
some_front [] n r = (n, r, refl)
some_front (m ∷ more) n r = (m, more ++ (n ∷ r), refl)

pub bad_more : (bytes more : List ℕ) → IsBad bytes → IsBad (bytes ++ more)
bad_more bytes more h = record {
  begun = λ c rest b. elim (parted bytes (spelling c) more rest b.1) [
    | inl w ↦ h.begun c w.0 (b.0, w.1)
    | inr w ↦ h.part (c, w.0, w.1, (b.0, sym w.2))
  ];
  part = λ p.
      let f = some_front more p.1 p.2 in
      h.part (p.0, f.0, f.1, (p.3.0, ap (λ l. bytes ++ l) (sym f.2) ∙ sym (append_assoc bytes more (p.1 ∷ p.2)) ∙ p.3.1));
}

-- ---- what came

pub record Came (old : Taken) (left : List ℕ) (now : Taken) (after : Option (List ℕ)) : Type 0 where
  pub more : List ℕ
  pub rest : List ℕ
  pub whole : left ≡ more ++ rest
  pub told : after ≡ Some rest
  pub pending : now.pending ≡ old.pending ++ more
  pub count : now.count ≡ old.count + length more

take_over : (n : ℕ) (xs ys : List ℕ) → take (length xs + n) (xs ++ ys) ≡ xs ++ take n ys
take_over n [] ys = ap (λ k. take k ys) (let e : 0 + n ≡ n = omega arith in e)
take_over n (x ∷ xs) ys = ap (λ k. take k (x ∷ (xs ++ ys))) (let e : suc (length xs) + n ≡ suc (length xs + n) = omega arith in e) ∙ ap (λ l. x ∷ l) (take_over n xs ys)

front_is : (old : Taken) (left : List ℕ) (now : Taken) (after : Option (List ℕ)) (c : Came old left now after) → now.count ≤ most_script →
    take (most_script - old.count) left ≡ c.more ++ take (most_script - now.count) c.rest
front_is old left now after c most =
    ap (take (most_script - old.count)) c.whole
    ∙ ap (λ n. take n (c.more ++ c.rest)) (let e : most_script - old.count ≡ length c.more + (most_script - now.count) = omega (arith, c.count, most) in e)
    ∙ take_over (most_script - now.count) c.more c.rest

-- an end that is found in what came is that of the script
ends_as : (old : Taken) (left : List ℕ) (now : Taken) (after : Option (List ℕ)) (c : Came old left now after) → now.count ≤ most_script → (o : Outcome) →
    Ends (nat_lt most_script (old.count + length left)) (now.count + length (take (most_script - now.count) c.rest)) (now.pending ++ take (most_script - now.count) c.rest) o →
    Ends (nat_lt most_script (old.count + length left)) (old.count + length (take (most_script - old.count) left)) (old.pending ++ take (most_script - old.count) left) o
ends_as old left now after c most o h =
    let tail = take (most_script - now.count) c.rest in
    let front = front_is old left now after c most in
    let size : now.count + length tail ≡ old.count + length (take (most_script - old.count) left) = omega (arith, c.count, ap length front, length-append c.more tail) in
    let bytes : now.pending ++ tail ≡ old.pending ++ take (most_script - old.count) left = ap (λ l. l ++ tail) c.pending ∙ append_assoc old.pending c.more tail ∙ ap (λ l. old.pending ++ l) (sym front) in
    subst (λ b. Ends (nat_lt most_script (old.count + length left)) (old.count + length (take (most_script - old.count) left)) b o) bytes
    (subst (λ n. Ends (nat_lt most_script (old.count + length left)) n (now.pending ++ tail) o) size h)

pub comes_found : (old : Taken) (left : List ℕ) (now : Taken) (after : Option (List ℕ)) (step : Step) (new : Taken) → IsWithin now → Came old left now after →
    Finds now (Ok (Some step)) new → Comes old left (Ok step) new after
comes_found old left now after (steps.Command cmd) new within c f =
    (f.0, c.more, c.rest, c.whole, c.told, subst (λ b. BeginsWith b cmd new.pending) c.pending f.1, f.2 ∙ c.count)
comes_found old left now after (steps.End ends.Done) new within c f =
    ends_as old left now after c within.1 done (inl (f.0 ++ take (most_script - now.count) c.rest, begins_more now.pending (take (most_script - now.count) c.rest) command.Quit f.0 f.1, refl))
comes_found old left now after (steps.End (ends.Bad offset)) new within c f =
    let tail = take (most_script - now.count) c.rest in
    let at : offset ≡ now.count + length tail - length (now.pending ++ tail) = omega (arith, f.1, within.0, length-append now.pending tail) in
    ends_as old left now after c within.1 (bad_at offset) (inr (inl (bad_more now.pending tail f.0, ap bad_at at)))
comes_found old left now after (steps.End ends.Long) new within c f = absurd f

pub comes_end : (old : Taken) (left : List ℕ) (now : Taken) (middle : Option (List ℕ)) (end : End) (new : Taken) (after : Option (List ℕ)) → now.count ≤ most_script → (c : Came old left now middle) →
    IsBeginning now.pending → Gets now c.rest (Ok (Some end)) new after → Comes old left (Ok (steps.End end)) new after
comes_end old left now middle end new after most c begun g =
    let tail = take (most_script - now.count) c.rest in
    let none : tail ≡ [] = g.0 in
    let all : now.count + length c.rest ≡ old.count + length left = omega (arith, c.count, ap length c.whole, length-append c.more c.rest) in
    let size : now.count ≡ now.count + length tail = omega (arith, ap length none) in
    let bytes : now.pending ≡ now.pending ++ tail = sym (append-nil now.pending) ∙ ap (λ l. now.pending ++ l) (sym none) in
    let same : outcome_of end ≡ at_end (nat_lt most_script (old.count + length left)) (now.count + length tail) (now.pending ++ tail) =
    g.1 ∙ ap (λ n. at_end (nat_lt most_script n) now.count now.pending) all
    ∙ ap (λ n. at_end (nat_lt most_script (old.count + length left)) n now.pending) size
    ∙ ap (at_end (nat_lt most_script (old.count + length left)) (now.count + length tail)) bytes in
    ends_as old left now middle c most (outcome_of end) (inr (inr (subst IsBeginning bytes begun, same)))

pub comes_more : (old : Taken) (left : List ℕ) (now : Taken) (middle : Option (List ℕ)) (new : Taken) (after : Option (List ℕ)) → (c : Came old left now middle) →
    Gets now c.rest (Ok None) new after → Came old left new after
comes_more old left now middle new after c g = record {
  more = c.more ++ g.0;
  rest = g.1;
  whole = c.whole ∙ ap (λ l. c.more ++ l) g.2 ∙ sym (append_assoc c.more g.0 g.1);
  told = g.3;
  pending = g.4 ∙ ap (λ l. l ++ g.0) c.pending ∙ append_assoc old.pending c.more g.0;
  count = omega (arith, g.5, c.count, length-append c.more g.0);
}

pub comes_none : (old : Taken) (left : List ℕ) (now : Taken) (middle : Option (List ℕ)) (e : IntakeError) (new : Taken) (after : Option (List ℕ)) → (c : Came old left now middle) →
    IsBeginning now.pending → Gets now c.rest (Err e) new after → Comes old left (Err e) new after
comes_none old left now middle errors.Failed new after c begun g = (c.more, c.rest, c.whole, g.0, subst IsBeginning c.pending begun, ap (λ (t : Taken). t.count) g.1 ∙ c.count, ap (λ (t : Taken). t.pending) g.1 ∙ c.pending)
comes_none old left now middle errors.Memory new after c begun g = tt
