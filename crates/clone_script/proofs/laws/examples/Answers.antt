use Rattle.std.proofs.Common.{refl, [], ◌∷◌, arith}
use Rattle.std.specs.Prelude.{codes}
use Rattle.std.proofs.lemmas.Fmt.{decimal_digit}
use Rattle.clone_script.specs.declared.command.Command.TheVariants as command
use Rattle.clone_script.specs.declared.choice.Choice.TheVariants as choice
use Rattle.clone_script.specs.Examples.{Takes, TakesNone}
use Rattle.clone_script.specs.Reading.{bad, more, literal_at, with_digit, next_number, number_from, number_at, first_byte, next_byte, name_from, name_at, bytes_at}
use Rattle.clone_script.specs.Members.{numbers_from, choice_at}
use Rattle.clone_script.specs.Commands.{keyword_of, behind_keyword, command_at, command_of}
use Rattle.clone_script.proofs.laws.examples.Goals as goal

extract_some : Takes (codes "extract 2 addmul 3 1 20\n") (command.Extract 2 (codes "addmul") (choice.Members (3 ∷ 1 ∷ 20 ∷ []))) 24
unfolding literal_at with_digit next_number number_from number_at first_byte next_byte name_from name_at bytes_at numbers_from choice_at keyword_of behind_keyword command_at command_of
extract_some = rw (decimal_digit 2 (omega arith)) refl

extract_none : TakesNone (codes "extract 1 h \n") bad
unfolding literal_at with_digit next_number number_from number_at first_byte next_byte name_from name_at bytes_at numbers_from choice_at keyword_of behind_keyword command_at command_of
extract_none = rw (decimal_digit 1 (omega arith)) refl

extract_blanks : TakesNone (codes "extract 1 h 1  2\n") bad
unfolding literal_at with_digit next_number number_from number_at first_byte next_byte name_from name_at bytes_at numbers_from choice_at keyword_of behind_keyword command_at command_of
extract_blanks = rw (decimal_digit 1 (omega arith)) refl

extract_blank_behind : TakesNone (codes "extract 1 h 1 \n") bad
unfolding literal_at with_digit next_number number_from number_at first_byte next_byte name_from name_at bytes_at numbers_from choice_at keyword_of behind_keyword command_at command_of
extract_blank_behind = rw (decimal_digit 1 (omega arith)) refl

extract_begun : TakesNone (codes "extract 1 h 1 2") more
unfolding literal_at with_digit next_number number_from number_at first_byte next_byte name_from name_at bytes_at numbers_from choice_at keyword_of behind_keyword command_at command_of
extract_begun = rw (decimal_digit 1 (omega arith)) refl

extract_both : TakesNone (codes "extract 1 h all 1\n") bad
unfolding literal_at with_digit next_number number_from number_at first_byte next_byte name_from name_at bytes_at numbers_from choice_at keyword_of behind_keyword command_at command_of
extract_both = rw (decimal_digit 1 (omega arith)) refl

pub returns : goal.returns
unfolding literal_at with_digit next_number number_from number_at first_byte next_byte name_from name_at bytes_at numbers_from choice_at keyword_of behind_keyword command_at command_of
returns c = record { classes = refl; maximal = refl; edit = refl; add = refl; save = refl; run = refl; turns = refl; begun = refl; cut_off = refl; extract_all = refl; extract_some = extract_some; extract_none = extract_none; extract_blanks = extract_blanks; extract_blank_behind = extract_blank_behind; extract_begun = extract_begun; extract_both = extract_both; begun_too = refl; misspelled = refl; blank = refl; zero = refl }
