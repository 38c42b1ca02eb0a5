-- The reserved words (AOSP, "AIDL language", as far as the profile goes).
use Rattle.std.specs.Prelude.{ℕ, if◌then◌else◌, List, [], ◌∷◌, Option, Some, None, codes}
use Rattle.std.specs.Str.{bytes_eq}
use Rattle.aidl_base.specs.declared.reserved.Reserved.{Reserved}
use Rattle.aidl_base.specs.declared.reserved.Reserved.TheVariants.{Package, Import, Interface, Parcelable, Union}
use Rattle.aidl_base.specs.declared.reserved.Reserved.TheVariants.{Enum, Const, Oneway, In, Out, InOut, True, False}
use Rattle.aidl_base.specs.declared.reserved.Reserved.TheVariants.{Void}

-- how each is written
abbrev pub word_of : Reserved → List ℕ
word_of Package = codes "package"
word_of Import = codes "import"
word_of Interface = codes "interface"
word_of Parcelable = codes "parcelable"
word_of Union = codes "union"
word_of Enum = codes "enum"
word_of Const = codes "const"
word_of Oneway = codes "oneway"
word_of In = codes "in"
word_of Out = codes "out"
word_of InOut = codes "inout"
word_of True = codes "true"
word_of False = codes "false"
word_of Void = codes "void"

abbrev pub all_reserved : List Reserved
all_reserved = Package ∷ Import ∷ Interface ∷ Parcelable ∷ Union ∷ Enum ∷ Const ∷ Oneway ∷ In ∷ Out ∷ InOut
    ∷ True ∷ False ∷ Void ∷ []

-- the first of some words that is written so
abbrev pub word_in : List Reserved → List ℕ → Option Reserved
word_in [] text = None
word_in (word ∷ words) text = if bytes_eq text (word_of word) then Some word else word_in words text

-- the reserved word that a text is
unfoldable pub reserved_of : List ℕ → Option Reserved
reserved_of text = word_in all_reserved text
