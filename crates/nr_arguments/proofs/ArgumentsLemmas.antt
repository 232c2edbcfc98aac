-- The selection that the program's arguments make.
use Rattle.std.proofs.Common.{◌≡◌, List, Option, Some, None, option_map, option_and_then, sym, ap, ◌∙◌, codes, [], ◌∷◌, refl}
use Rattle.clap.specs.Words.{Row, Text, first_of}
use Rattle.nr_arguments.specs.Arguments.{Ask, IsPlain, asked_in, asked_on}
use Rattle.clap.proofs.OnLiterals.{clap_on_literals}

-- if f gives x for an option's value and g gives y, mapping the option with both gives the pair (x,
-- y)
pub both_views : {B X Y : Type 0} (f : B → X) (g : B → Y) (o : Option B) (x : X) (y : Y) → Some x ≡ option_map f o
    → Some y ≡ option_map (λ (p : X × Y). p.1) (option_map {U = X × Y} (λ b. (f b, g b)) o) → option_map {U = X × Y} (λ b. (f b, g b)) o ≡ Some (x, y)
both_views f g None x y e h = cc
both_views f g (Some b) x y e h = cc

-- the selection by a subcommand's name and its file
asked_in-file : (found : Option (Text × List Row)) (name : Text) (rows : List Row) (file : Text) → found ≡ Some (name, rows) → Some file ≡ first_of (codes "file") rows
    → asked_in found ≡ asked_on name rows file
asked_in-file found name rows file is read = ap asked_in is ∙ ap (option_and_then (asked_on name rows)) (sym read)

-- the selection if the subcommand's name is this word
pub asked_in-word : {B : Type 0} (f : B → Text) (g : B → List Row) (o : Option B) (name : Text) (rows : List Row) (file word : Text) → Some name ≡ option_map f o
    → Some rows ≡ option_map (λ (p : Text × List Row). p.1) (option_map {U = Text × List Row} (λ b. (f b, g b)) o) → Some file ≡ first_of (codes "file") rows → name ≡ word
    → asked_in (option_map {U = Text × List Row} (λ b. (f b, g b)) o) ≡ asked_on word rows file
asked_in-word f g o name rows file word named with_rows read is =
    asked_in-file _ name rows file (both_views f g o name rows named with_rows) read ∙ ap (λ (n : Text). asked_on n rows file) is

-- without a file, there is no selection
pub asked_in-none : (found : Option (Text × List Row)) (name : Text) (rows : List Row) → found ≡ Some (name, rows) → None ≡ first_of (codes "file") rows → asked_in found ≡ None
asked_in-none found name rows is read = ap asked_in is ∙ ap (option_and_then (asked_on name rows)) (sym read)

-- a subcommand's name and a plain file name select the program
pub run_asks : (program file : Text) → IsPlain file → Ask (program ∷ codes "run" ∷ file ∷ []) (codes "run", file, None)
unfolding clap_on_literals
run_asks program [] plain = record { faultless = refl; is_asked = refl }
run_asks program (x ∷ xs) plain = record { faultless = simp plain; is_asked = simp plain }

pub check_asks : (program file : Text) → IsPlain file → Ask (program ∷ codes "check" ∷ file ∷ []) (codes "check", file, None)
unfolding clap_on_literals
check_asks program [] plain = record { faultless = refl; is_asked = refl }
check_asks program (x ∷ xs) plain = record { faultless = simp plain; is_asked = simp plain }

pub upgrade_asks : (program file : Text) → IsPlain file → Ask (program ∷ codes "upgrade" ∷ file ∷ []) (codes "upgrade", file, None)
unfolding clap_on_literals
upgrade_asks program [] plain = record { faultless = refl; is_asked = refl }
upgrade_asks program (x ∷ xs) plain = record { faultless = simp plain; is_asked = simp plain }

pub changes_asks : (program file : Text) → IsPlain file → Ask (program ∷ codes "changes" ∷ file ∷ []) (codes "changes", file, None)
unfolding clap_on_literals
changes_asks program [] plain = record { faultless = refl; is_asked = refl }
changes_asks program (x ∷ xs) plain = record { faultless = simp plain; is_asked = simp plain }

pub suspects_asks : (program file : Text) → IsPlain file → Ask (program ∷ codes "suspects" ∷ file ∷ []) (codes "suspects", file, None)
unfolding clap_on_literals
suspects_asks program [] plain = record { faultless = refl; is_asked = refl }
suspects_asks program (x ∷ xs) plain = record { faultless = simp plain; is_asked = simp plain }
