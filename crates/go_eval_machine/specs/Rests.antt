-- What is left to do behind a computation, by how that ends.
use Rattle.std.specs.Prelude.{ℕ, suc, List, ◌++◌, take}
use Rattle.go_meaning.specs.Values.{Value}
use Rattle.go_meaning.specs.Computations.{World, Ending, Next, Return, Break, Continue, Fallthrough, Panics, Outcome, Ends, Undecided, Comp, end_by, give}

-- What is done next with the values that were given so far, and what is done on the way out by another ending.
pub record Rest : Type 0 where
  pub go : List Value → Comp
  pub out : List Value → Ending → Comp

-- all is done
abbrev pub finish : Rest
finish = record { go = give; out = λ vs e. end_by e }

abbrev pub go_by : Outcome → (Ending → List Value → World → ℕ → Outcome) → Outcome
go_by (Ends e f w t) k = k e f w t
go_by (Undecided o) k = Undecided o

-- the computation, and what comes behind each ending
unfoldable pub before : Comp → (Ending → Comp) → Comp
before c k d f w t = go_by (c d f w t) (λ e f1 w1 t1. k e d f1 w1 t1)

-- the rest behind an ending: what is given stands behind the first values, and the way out has the second ones
abbrev pub behind : Rest → List Value → List Value → Ending → Comp
behind r vs ws (Next us) = r.go (vs ++ us)
behind r vs ws (Return us) = r.out ws (Return us)
behind r vs ws Break = r.out ws Break
behind r vs ws Continue = r.out ws Continue
behind r vs ws Fallthrough = r.out ws Fallthrough
behind r vs ws (Panics p) = r.out ws (Panics p)

-- the computation and then the rest, with these values below what it gives
abbrev pub then_rest : Comp → Rest → List Value → Comp
then_rest c r vs = before c (behind r vs vs)

-- ---- kinds of rests: each drops, on the way out, the values above its base

-- a computation on the values above the base takes their place
abbrev pub replacing : ℕ → (List Value → Comp) → Rest → Rest
replacing b c r = record { go = λ vs. then_rest (c vs) r (take b vs); out = λ ws e. r.out (take b ws) e }

-- the same where the values stand above two bases
abbrev pub replacing_both : (b k : ℕ) → (List Value → Comp) → Rest → Rest
replacing_both b k c r = record { go = λ vs. then_rest (c vs) r (take b (take k vs)); out = λ ws e. r.out (take b ws) e }

-- what the computation gives stands behind all values
abbrev pub adding : ℕ → Comp → Rest → Rest
adding b c r = record { go = λ vs. before c (behind r vs (take b vs)); out = λ ws e. r.out (take b ws) e }

-- a node is asked, and there is nothing to drop
abbrev pub asking : Comp → Rest → Rest
asking c r = record { go = λ vs. then_rest c r vs; out = r.out }

-- the way out of the block of a loop
abbrev pub out_of_round : Comp → Rest → List Value → Ending → Comp
out_of_round c r ws Continue = then_rest c r ws
out_of_round c r ws Break = r.go ws
out_of_round c r ws e = r.out ws e

-- behind the block of a loop: the rest of the loop
abbrev pub round : ℕ → Comp → Rest → Rest
round b c r = record { go = λ vs. then_rest c r (take b vs); out = λ ws e. out_of_round c r (take b ws) e }

-- the way out of a clause of a switch
abbrev pub out_of_clause : Comp → Rest → List Value → Ending → Comp
out_of_clause c r ws Fallthrough = then_rest c r ws
out_of_clause c r ws Break = r.go ws
out_of_clause c r ws e = r.out ws e

-- behind a clause of a switch: the clause that it falls through to
abbrev pub clause_end : ℕ → Comp → Rest → Rest
clause_end b c r = record { go = λ vs. r.go (take b vs); out = λ ws e. out_of_clause c r (take b ws) e }

-- the way out of a body
abbrev pub out_of_body : Rest → List Value → Ending → Comp
out_of_body r ws (Return us) = r.go (ws ++ us)
out_of_body r ws (Panics p) = r.out ws (Panics p)
out_of_body r ws e = r.go ws

-- behind a body: back in the frame of the caller, which is one less deep
abbrev pub leaving : ℕ → List Value → Rest → Rest
leaving b frame r = record {
  go = λ vs d f w t. r.go (take b vs) (suc d) frame w t;
  out = λ ws e d f w t. out_of_body r (take b ws) e (suc d) frame w t;
}
