-- Each file of an extraction of a package that type-checks is a rewriting of the file.
use Rattle.std.proofs.Common.{◌≡◌, ℕ, ◌<◌, ◌≤◌, List, [], ◌∷◌, Some}
use Rattle.std.specs.Prelude.{slice_get}
use Rattle.std.specs.List.{AllByRecursion}
use Rattle.go_base.specs.Package.{most_bytes, total_bytes}
use Rattle.go_tree.specs.File.{FileTree}
use Rattle.go_types.specs.Trees.{TypeTree}
use Rattle.go_typed.specs.declared.window.Window.{Window}
use Rattle.go_typed.specs.Contents.{Content, FuncContent, content}
use Rattle.go_typed.specs.Packages.{PackageView}
use Rattle.go_package_defs.specs.Checked.{IsCheckedPackage, texts_of}
use Rattle.go_print_laws.specs.Calls.{CallCanBeWritten}
use Rattle.param_choose.specs.Choosing.{chosen_of}
use Rattle.param_choose.specs.Members.{Member, member_of, members_of, template_of}
use Rattle.escape_check.specs.Apart.{UnrefusedAreApart}
use Rattle.escape_check.specs.Places.{file_of, sources_of}
use Rattle.escape_check.specs.Types.{declared_text}
use Rattle.extract_texts.specs.Fresh.{AreEnough}
use Rattle.extract_texts.specs.Texts.{call_of}
use Rattle.extract_files.specs.Functions.{ExtractedFunctionsRead, ExtractedFunctionsStand}
use Rattle.extract_rewrite.specs.Ready.{EditsCanBeDone}
use Rattle.go_function_places.specs.Places.{HavePlaces}
use Rattle.extract_rewrite_files.specs.Behind.{CallsCanBeWritten, FunctionsReadBehind, FunctionsStandBehind, MayBeTaken, StandsBehind, TemplatesAreParts}
use Rattle.extract_rewrite_files.specs.NewFiles.{BecomesNew, FilesBecomeNew, IsOneOf}
use Rattle.extract_rewrite_files.specs.Signatures.{FilesHaveFronts, HasFront}
use Rattle.extract_rewrite_files.specs.Sites.{HasSite}
use Rattle.extract_rewrite_files.proofs.Assembly.{Known_member, Laws, each_one, file_front, file_new}
use Rattle.extract_rewrite_files.proofs.Behind.{reads_behind, stands_behind, template_for}
use Rattle.extract_rewrite_files.proofs.CheckedFiles.{are_read}
use Rattle.extract_rewrite_files.proofs.Complete.{InFunction, in_function}
use Rattle.extract_rewrite_files.proofs.Depths.{KeepsDepth}
use Rattle.extract_rewrite_files.proofs.Facts.{Fact}
use Rattle.extract_rewrite_files.proofs.Members.{all_of, over, own_member, template_has}
use Rattle.extract_rewrite_files.proofs.Sites.{Known}
use Rattle.extract_rewrite_files.proofs.Written.{TextsEndWell}

-- what the law on functions of packages that type-check says
abbrev pub AllHavePlaces : Type 0
AllHavePlaces = (p : PackageView) → IsCheckedPackage p → total_bytes (texts_of p) ≤ most_bytes → HavePlaces (content p)

-- A member is that of its window, its function has a place, and stands behind the first token of its file.
record Own (c : Content) (h : HavePlaces c) (m : Member TypeTree) : Type 0 where
  own : member_of c m.window ≡ Some m
  inside : InFunction c h.places m
  behind : 0 < m.first

abbrev Any : Window → Type 0
Any w = Unit {0}

all_any : (ws : List Window) → AllByRecursion Any ws
all_any [] = tt
all_any (w ∷ ws) = (tt, all_any ws)

module _ (c : Content) (h : HavePlaces c) where
  one_own : (w : Window) (f : FuncContent) → Any w → slice_get c.functions w.func ≡ Some f → Own c h (over c w f)
  one_own w f q e = let r = in_function c h w f e in record { own = own_member c w f e; inside = r.0; behind = r.1 }

  owns : (ws : List Window) → AllByRecursion (Own c h) (members_of c ws)
  owns ws = all_of c Any (Own c h) one_own ws (all_any ws)

  template_own : (ws : List Window) (t : Member TypeTree) → template_of c ws ≡ Some t → Own c h t
  template_own ws t e = template_has c Any (Own c h) one_own ws t (all_any ws) e

  facts : (ms : List (Member TypeTree)) → AllByRecursion (Own c h) ms → AllByRecursion (HasSite c) ms → AllByRecursion (Fact c) ms
  facts [] a b = tt
  facts (m ∷ ms) a b = (record { own = a.0.own; place = b.0; behind = a.0.behind }, facts ms a.1 b.1)

  insides : (ms : List (Member TypeTree)) → AllByRecursion (Own c h) ms → AllByRecursion (InFunction c h.places) ms
  insides [] a = tt
  insides (m ∷ ms) a = (a.0.inside, insides ms a.1)

pub templates_are_parts : Known → TextsEndWell → AreEnough → KeepsDepth → AllHavePlaces → TemplatesAreParts
templates_are_parts known texts enough keeps places p name ws t h k names =
    let o = template_own (content p) (places p h.checked h.within.small) ws t h.template in
    template_for known texts enough keeps (content p) (texts_of p) (are_read p h.checked) h.within.small name ws t h.template o.own o.behind k names

pub functions_stand_behind : Known → TextsEndWell → AreEnough → KeepsDepth → ExtractedFunctionsStand → AllHavePlaces → FunctionsStandBehind
functions_stand_behind known texts enough keeps law places p name ws t h k w low =
    let o = template_own (content p) (places p h.checked h.within.small) ws t h.template in
    stands_behind known texts enough keeps (content p) (texts_of p) (are_read p h.checked) h.within.small name ws t h.template o.own o.behind k law w.header w.returned w.fresh low

all_three : {A : Type 0} (P Q R : A → Type 0) (xs : List A) → AllByRecursion P xs → AllByRecursion Q xs → AllByRecursion R xs → AllByRecursion (λ x. P x × Q x × R x) xs
all_three P Q R [] a b d = tt
all_three P Q R (x ∷ xs) a b d = ((a.0, b.0, d.0), all_three P Q R xs a.1 b.1 d.1)

pub functions_read_behind : Known → TextsEndWell → AreEnough → KeepsDepth → ExtractedFunctionsRead → AllHavePlaces → FunctionsReadBehind
functions_read_behind known texts enough keeps law places p name ws t h k w =
    let o = template_own (content p) (places p h.checked h.within.small) ws t h.template in
    reads_behind known texts enough keeps (content p) (texts_of p) (are_read p h.checked) h.within.small name ws t h.template o.own o.behind k law w.header w.returned w.fresh

module _ (laws : Laws) (can : EditsCanBeDone) (apart : UnrefusedAreApart) (places : AllHavePlaces) (p : PackageView) (name : List ℕ) (ws : List Window) (t : Member TypeTree) (h : MayBeTaken p name ws t) (w : CallsCanBeWritten (content p) name ws t) where
  abbrev have : HavePlaces (content p)
  have = places p h.checked h.within.small

  owned : AllByRecursion (Own (content p) have) (members_of (content p) ws)
  owned = owns (content p) have ws

  all_known : AllByRecursion (Known_member laws p name ws t h.within (are_read p h.checked) h.template (can p name ws t h.checked h.within.small h.template h.allowed)) (members_of (content p) ws)
  all_known =
      all_three (Fact (content p)) (λ m. CallCanBeWritten (declared_text (sources_of (content p))) (call_of (λ x. x) (sources_of (content p)) name t (chosen_of (content p) ws) m)) (λ m. IsOneOf m (members_of (content p) ws))
      (members_of (content p) ws) (facts (content p) have (members_of (content p) ws) owned h.sites) w (each_one (members_of (content p) ws))

  pub become_new : (n : ℕ) (f : FileTree) → slice_get p.files n ≡ Some f → (n ≡ file_of (sources_of (content p)) t → StandsBehind (content p) name ws t) → BecomesNew p name ws t n f
  become_new n f e behind =
      file_new laws p name ws t h.within (are_read p h.checked) h.template (can p name ws t h.checked h.within.small h.template h.allowed) all_known have
      (insides (content p) have (members_of (content p) ws) owned) (apart (content p) name ws t h.template h.allowed) n f e behind

  pub have_front : (n : ℕ) (f : FileTree) → slice_get p.files n ≡ Some f → HasFront p name ws t n
  have_front n f e =
      file_front laws p name ws t h.within (are_read p h.checked) h.template (can p name ws t h.checked h.within.small h.template h.allowed) all_known have
      (insides (content p) have (members_of (content p) ws) owned) (apart (content p) name ws t h.template h.allowed) n f e

pub files_become_new : Laws → EditsCanBeDone → UnrefusedAreApart → AllHavePlaces → FilesBecomeNew
files_become_new laws can apart places p name ws t h w n f e behind = become_new laws can apart places p name ws t h w n f e behind

pub files_have_fronts : Laws → EditsCanBeDone → UnrefusedAreApart → AllHavePlaces → FilesHaveFronts
files_have_fronts laws can apart places p name ws t h w n f e = have_front laws can apart places p name ws t h w n f e
