-- The word that a kind is printed as has the letters of its name.
use Rattle.std.specs.Prelude.{◌≡◌, refl}
use Rattle.iff_name.specs.declared.Kind.{Kind}
use Rattle.iff_name.specs.declared.Kind.TheVariants.{FORM, LIST, CAT, PROP, FILLER, LOCAL}
use Rattle.print_line.specs.Text.{kind_text}
use Rattle.print_line.specs.Words.{letters_up_to, letters, kind_word}

pub kind_letters : (k : Kind) → letters (kind_word k) ≡ kind_text k
unfolding letters_up_to
kind_letters FORM = refl
kind_letters LIST = refl
kind_letters CAT = refl
kind_letters PROP = refl
kind_letters FILLER = refl
kind_letters LOCAL = refl
