-- A script has exactly one outcome.
use Rattle.std.proofs.Common.{◌≡◌, ℕ, zero, suc, ◌⊎◌, inl, inr, ◌-◌, ◌+◌, ◌<◌, Bool, List, [], ◌∷◌, length, take, refl, sym, ap, subst, ◌∙◌, arith}
use Rattle.std.specs.Prelude.{nat_lt}
use Rattle.std.proofs.lemmas.List.{length-append}
use Rattle.clone_script.specs.declared.command.Command.{Command}
use Rattle.clone_script.specs.declared.command.Command.TheVariants as command
use Rattle.clone_script.specs.Grammar.{spelling, BeginsWith}
use Rattle.clone_script.specs.Script.{most_script, Outcome, done, bad_at, Follow, at_end, Ends, HasOutcome}
use Rattle.clone_script.proofs.Outcomes.{one_command, three_ways, ways_apart}

-- no command but `quit` begins
abbrev Stops : List ℕ → Type 0
Stops rest = (c : Command) (others : List ℕ) → BeginsWith rest c others → c ≡ command.Quit

stops : (m : Bool) (size : ℕ) (rest : List ℕ) (o : Outcome) → Ends m size rest o → Stops rest
stops m size rest o (inl w) c others h = (one_command rest c command.Quit others w.0 h w.1).0
stops m size rest o (inr (inl w)) c others h = absurd (w.0.begun c others h)
stops m size rest o (inr (inr w)) c others h = absurd (ways_apart rest c others h w.0)

same_rest : (cs ds : List Command) (bytes x y : List ℕ) → Follow cs bytes x → Follow ds bytes y → Stops x → Stops y → x ≡ y
same_rest [] [] bytes x y h k s t = sym h ∙ k
same_rest [] (d ∷ ds) bytes x y h k s t = absurd (k.0 (s d k.1 (subst (λ (z : List ℕ). BeginsWith z d k.1) h k.2)))
same_rest (c ∷ cs) [] bytes x y h k s t = absurd (h.0 (t c h.1 (subst (λ (z : List ℕ). BeginsWith z c h.1) k h.2)))
same_rest (c ∷ cs) (d ∷ ds) bytes x y h k s t =
    let same = one_command bytes c d h.1 k.1 h.2 k.2 in
    same_rest cs ds h.1 x y h.3 (subst (λ (z : List ℕ). Follow ds z y) (sym same.1) k.3) s t

same_end : (m : Bool) (size : ℕ) (rest : List ℕ) (a b : Outcome) → Ends m size rest a → Ends m size rest b → a ≡ b
same_end m size rest a b (inl w) (inl v) = w.2 ∙ sym v.2
same_end m size rest a b (inl w) (inr (inl v)) = absurd (v.0.begun command.Quit w.0 w.1)
same_end m size rest a b (inl w) (inr (inr v)) = absurd (ways_apart rest command.Quit w.0 w.1 v.0)
same_end m size rest a b (inr (inl w)) (inl v) = absurd (w.0.begun command.Quit v.0 v.1)
same_end m size rest a b (inr (inl w)) (inr (inl v)) = w.1 ∙ sym v.1
same_end m size rest a b (inr (inl w)) (inr (inr v)) = absurd (w.0.part v.0)
same_end m size rest a b (inr (inr w)) (inl v) = absurd (ways_apart rest command.Quit v.0 v.1 w.0)
same_end m size rest a b (inr (inr w)) (inr (inl v)) = absurd (v.0.part w.0)
same_end m size rest a b (inr (inr w)) (inr (inr v)) = w.1 ∙ sym v.1

one_by : (script : List ℕ) (a b : Outcome) → HasOutcome script a → HasOutcome script b → a ≡ b
one_by script a b h k =
    let m = nat_lt most_script (length script) in
    let size = length (take most_script script) in
    let same = same_rest h.0 k.0 (take most_script script) h.1 k.1 h.2 k.2 (stops m size h.1 a h.3) (stops m size k.1 b k.3) in
    same_end m size k.1 a b (subst (λ (z : List ℕ). Ends m size z a) same h.3) k.3

pub one_outcome : (script : List ℕ) (a b : Outcome) → HasOutcome script a → HasOutcome script b → a ≡ b
one_outcome = one_by

-- every command has a first byte
some_byte : (c : Command) → 0 < length (spelling c)
some_byte (command.Edit name start end text) = omega arith
some_byte (command.Add name text) = omega arith
some_byte (command.Remove name) = omega arith
some_byte command.Classes = omega arith
some_byte command.Maximal = omega arith
some_byte command.Stat = omega arith
some_byte (command.Extract class name c) = omega arith
some_byte (command.Run turns input) = omega arith
some_byte (command.Show name) = omega arith
some_byte command.Save = omega arith
some_byte command.Quit = omega arith

quits : (c : Command) → (c ≡ command.Quit) ⊎ (c ≡ command.Quit → ⊥)
quits (command.Edit name start end text) = inr (λ e. absurd cc)
quits (command.Add name text) = inr (λ e. absurd cc)
quits (command.Remove name) = inr (λ e. absurd cc)
quits command.Classes = inr (λ e. absurd cc)
quits command.Maximal = inr (λ e. absurd cc)
quits command.Stat = inr (λ e. absurd cc)
quits (command.Extract class name c) = inr (λ e. absurd cc)
quits (command.Run turns input) = inr (λ e. absurd cc)
quits (command.Show name) = inr (λ e. absurd cc)
quits command.Save = inr (λ e. absurd cc)
quits command.Quit = inl refl

shorter : (bytes others : List ℕ) (c : Command) (n : ℕ) → BeginsWith bytes c others → length bytes < suc n → length others < n
shorter bytes others c n h le =
    let size : length bytes ≡ length (spelling c) + length others = ap length h.1 ∙ length-append (spelling c) others in
    omega (arith, some_byte c, size, le)

abbrev Ended : Bool → ℕ → List ℕ → Type 0
Ended m size bytes = (o : Outcome) × (cs : List Command) × (rest : List ℕ) × Follow cs bytes rest × Ends m size rest o

ended : (m : Bool) (size n : ℕ) (bytes : List ℕ) → length bytes < n → Ended m size bytes
ended m size zero bytes le = absurd (omega (arith, le))
ended m size (suc n) bytes le =
    elim (three_ways bytes) [
      | inl w ↦ elim (quits w.0) [
        | inl v ↦ (done, [], bytes, refl, inl (w.1, subst (λ (c : Command). BeginsWith bytes c w.1) v w.2, refl))
        | inr v ↦
            let t = ended m size n w.1 (shorter bytes w.1 w.0 n w.2 le) in
            (t.0, w.0 ∷ t.1, t.2, (v, w.1, w.2, t.3), t.4)
      ]
      | inr w ↦ elim w [
        | inl v ↦ (at_end m size bytes, [], bytes, refl, inr (inr (v, refl)))
        | inr v ↦ (bad_at (size - length bytes), [], bytes, refl, inr (inl (v, refl)))
      ]
    ]

pub some_outcome : (script : List ℕ) → (o : Outcome) × HasOutcome script o
some_outcome script =
    let front = take most_script script in
    let t = ended (nat_lt most_script (length script)) (length front) (suc (length front)) front (omega arith) in
    (t.0, (t.1, t.2, t.3, t.4))
