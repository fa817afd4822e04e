-- The members that the events of a file tell of, each by its group and its name.
use Rattle.std.specs.Prelude.{ℕ, ◌≡◌, Bool, ◌&&◌, ◌||◌, nat_eq, List}
use Rattle.std.specs.HashSet.{HashSet}
use Rattle.std.specs.HashSet as set
use Rattle.std.specs.Borrow.{Bor}
use Rattle.std.specs.Cmp.Lexicographic.{pointwise}
use Rattle.go_tokens.specs.Tokens.{TokenList}
use Rattle.go_tokens.specs.Spellings.{same_text}
use Rattle.go_tree.specs.declared.event.Member.{Member}
use Rattle.go_tree.specs.declared.event.Member.TheVariants as member
use Rattle.go_tree.specs.declared.event.Event.{Event}
use Rattle.go_tree.specs.Duplicates.{same_member, has_member}
use Rattle.go_scopes.specs.declared.members.Members.{Members}

-- whether two names, each with the number of its group, are the same
abbrev pub same_name : ℕ × Bor (List ℕ) → ℕ × Bor (List ℕ) → Bool
same_name a b = nat_eq a.0 b.0 && pointwise nat_eq a.1.now b.1.now

-- whether the members have one of the group with this name
abbrev pub has_name : Members → Member → ℕ × Bor (List ℕ) → Bool
has_name ms member.Field p = set.contains same_name ms.fields p
has_name ms member.Key p = set.contains same_name ms.keys p
has_name ms member.Parameter p = set.contains same_name ms.parameters p

-- The second names have also the name w of the group g.
abbrev pub AddsName : {S : Type 0} → HashSet (ℕ × Bor (List ℕ)) S → HashSet (ℕ × Bor (List ℕ)) S → ℕ → List ℕ → Type 0
AddsName old new g w = (h : ℕ) (v : Bor (List ℕ)) → set.contains same_name new (h, v) ≡ ((nat_eq h g && same_text v.now w) || set.contains same_name old (h, v))

-- The second members have also that of the group g with the name w.
abbrev pub AddsMember : Members → Members → Member → ℕ → List ℕ → Type 0
AddsMember old new m g w = (o : Member) (h : ℕ) (v : Bor (List ℕ)) → has_name new o (h, v) ≡ ((same_member o m && nat_eq h g && same_text v.now w) || has_name old o (h, v))

-- They are those that the events tell of.
abbrev pub Gathers : Members → TokenList → List Event → Type 0
Gathers ms ts es = (m : Member) (g : ℕ) (w : Bor (List ℕ)) → has_name ms m (g, w) ≡ has_member m g w.now ts es
