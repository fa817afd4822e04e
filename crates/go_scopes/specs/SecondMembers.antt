-- The rule on fields, keys and parameters that stand twice, for some of these alone.
use Rattle.std.specs.Prelude.{ℕ, suc, Bool, true, false, ◌&&◌, List, [], ◌∷◌, ◌++◌}
use Rattle.go_tokens.specs.Tokens.{TokenList}
use Rattle.go_tree.specs.declared.event.Member.{Member}
use Rattle.go_tree.specs.declared.event.Member.TheVariants as member
use Rattle.go_tree.specs.declared.event.Event.{Event}
use Rattle.go_tree.specs.declared.event.Event.TheVariants as event
use Rattle.go_tree.specs.Units.{Place, word, bytes_at}
use Rattle.go_tree.specs.Failures.{place_if}
use Rattle.go_tree.specs.Duplicates.{is_duplicate}

abbrev pub is_parameter : Member → Bool
is_parameter member.Parameter = true
is_parameter m = false

abbrev pub any_member : Member → Bool
any_member m = true

abbrev pub place_among : (Member → Bool) → List Event → ℕ → TokenList → Event → List Place → List Place
place_among f before n ts (event.Member m g x) ss = place_if (f m && is_duplicate m g (word ts x) ts before) (bytes_at n ts x) ss
place_among f before n ts e ss = ss

-- the places of the rule at members that pass the test
abbrev pub second_among : (Member → Bool) → List Event → ℕ → TokenList → List Event → List Place
second_among f before n ts [] = []
second_among f before n ts (e ∷ es) = place_among f before n ts e (second_among f (before ++ e ∷ []) n ts es)
