-- A run for which memory runs out before anything is done.
use Rattle.std.proofs.Common.{ℕ, List, [], Option, Some, None, Result, Ok, Err, inl, inr, refl, sym, ap, ◌∙◌, arith}
use Rattle.std.proofs.lemmas.List.{append-nil}
use Rattle.go_base.specs.declared.bytes.FileText.{FileText}
use Rattle.port_io.specs.Held.{Held}
use Rattle.clone_server.specs.declared.words.WordsError.{WordsError}
use Rattle.clone_server.specs.Words.{Said, usage}
use Rattle.clone_server.specs.declared.folder.OpenError.{OpenError}
use Rattle.clone_server.specs.Opening.{opened}
use Rattle.clone_server.specs.declared.stop.Stop.TheVariants as stop
use Rattle.clone_server.specs.Session.{Settings, Answering}
use Rattle.clone_server.specs.Made.{made, made_script}
use Rattle.clone_server.specs.Run.{EndsBy, EndsFor, RunsFiles, RunsFolder, RunsSaid, RunsWords, Untouched, nothing_held}

files_before : (A : Answering) (dir : List ℕ) (files : List FileText) (held : Held) (script before : List ℕ) (after : Option Held) (written left : Option (List ℕ)) →
    Untouched held script before after written left → RunsFiles A dir (record { files = files; held = held }) script before (Err stop.Memory) after written left
files_before A dir files held script before after written left u = inr (inl (
  [],
  left,
  record {
    bytes = [];
    now = record { files = files; held = held };
    reached = record { commands = []; taken = []; rest = script; whole = refl; few = omega arith; follow = refl; answered = (refl, refl) };
    held = u.0;
    written_is = u.1 ∙ ap Some (sym (append-nil before));
    left_is = u.2;
  },
))

folder_before : (A : Answering) (dir : List ℕ) (x : Result (List FileText) OpenError) (held : Held) (script before : List ℕ) (after : Option Held) (written left : Option (List ℕ)) →
    Untouched held script before after written left → RunsFolder A dir x held script before (Err stop.Memory) after written left
folder_before A dir (Ok files) held script before after written left u = files_before A dir files held script before after written left u
folder_before A dir (Err e) held script before after written left u = u

said_before : (A : Answering) (said : Said) (make : Option ℕ) (held : Held) (script before : List ℕ) (after : Option Held) (written left : Option (List ℕ)) →
    Untouched held script before after written left → RunsSaid A said make held script before (Err stop.Memory) after written left
said_before A said None held script before after written left u = folder_before A said.dir (opened (held said.dir)) held script before after written left u
said_before A said (Some seed) held script before after written left u =
    (Some nothing_held, Some made_script, files_before A [] (made seed) nothing_held made_script before (Some nothing_held) written (Some made_script) (refl, u.1, refl), u.0, u.2)

pub words_before : (A : Settings → Answering) (x : Result Said WordsError) (held : Held) (script before : List ℕ) (after : Option Held) (written left : Option (List ℕ)) →
    Untouched held script before after written left → RunsWords A x held script before (Err stop.Memory) after written left
words_before A (Ok said) held script before after written left u = said_before (A (record { min = said.min; mass = said.mass })) said said.make held script before after written left u
words_before A (Err e) held script before after written left u =
    ((usage, record { front = []; told = u.1 ∙ ap Some (sym (append-nil before)); whole = refl }), u.0, u.2)

ends_for : (make : Option ℕ) → EndsFor make (Err stop.Memory)
ends_for None = tt
ends_for (Some seed) = tt

pub ends_before : (x : Result Said WordsError) → EndsBy x (Err stop.Memory)
ends_before (Ok said) = ends_for said.make
ends_before (Err e) = tt
