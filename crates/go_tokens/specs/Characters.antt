-- The classes of characters (Go specification: Characters, Letters and digits, Tokens).
use Rattle.std.specs.Prelude.{ℕ, Bool, ◌&&◌, ◌||◌, ◌==◌, nat_le}
use Rattle.ucd_category.specs.GeneralCategory.{general_category, general_category_eq}
use Rattle.ucd_category.specs.GeneralCategoryGroup.{in_group}
use Rattle.ucd_category.specs.declared.GeneralCategory.TheVariants.{DecimalNumber}
use Rattle.ucd_category.specs.declared.GeneralCategoryGroup.TheVariants.{Letter}

-- a blank, a tab, a newline, a carriage return, and the byte order mark, which only a file's first character may be
unfoldable pub is_white : ℕ → Bool
is_white x = x == 32 || x == 9 || x == 10 || x == 13 || x == 65279

abbrev pub is_between : ℕ → ℕ → ℕ → Bool
is_between low high x = nat_le low x && nat_le x high

-- a decimal digit of ASCII
unfoldable pub is_digit : ℕ → Bool
is_digit x = is_between 48 57 x

-- `_`, and the categories Lu, Ll, Lt, Lm and Lo
unfoldable pub is_letter : ℕ → Bool
is_letter x = x == 95 || in_group Letter (general_category x)

-- a letter, or a digit of the category Nd
unfoldable pub is_in_word : ℕ → Bool
is_in_word x = is_letter x || general_category_eq (general_category x) DecimalNumber

-- letters, digits, `_` and `.`
unfoldable pub is_in_run : ℕ → Bool
is_in_run x = is_in_word x || x == 46

-- e and E
unfoldable pub is_exponent : ℕ → Bool
is_exponent x = x == 101 || x == 69

-- p and P
unfoldable pub is_power : ℕ → Bool
is_power x = x == 112 || x == 80

-- x and X
unfoldable pub is_x : ℕ → Bool
is_x x = x == 120 || x == 88

-- b and B
unfoldable pub is_b : ℕ → Bool
is_b x = x == 98 || x == 66

-- o and O
unfoldable pub is_o : ℕ → Bool
is_o x = x == 111 || x == 79

-- + and -
unfoldable pub is_sign : ℕ → Bool
is_sign x = x == 43 || x == 45
