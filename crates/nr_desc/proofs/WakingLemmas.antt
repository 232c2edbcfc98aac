-- The woken goroutines are those that a word held before an operation but doesn't hold after it.
use Rattle.std.proofs.Common.{◌≡◌, ◌∙◌, ℕ, None, Some, ap, refl, sym}
use Rattle.std.proofs.lemmas.Option.{same_Some}
use Rattle.nr_rev.specs.declared.descriptor.WaitWord.{WaitWord}
use Rattle.nr_rev.specs.declared.descriptor.WaitWord.TheVariants.{Nil, Ready, Wait, Held}
use Rattle.nr_rev.specs.declared.descriptor.Descriptor.{Descriptor}
use Rattle.nr_rev.specs.declared.sides.Side.{Side}
use Rattle.nr_rev.specs.declared.sides.Side.TheVariants.{Read, Write}
use Rattle.nr_rev.specs.declared.sides.Sides.{Sides}
use Rattle.nr_rev.specs.Sides.{of_side, twice}
use Rattle.nr_desc.specs.Auxiliary.Change.{both_let_go, let_go}
use Rattle.nr_desc.specs.Auxiliary.Op.{StepTo, woken_by}
use Rattle.nr_desc.specs.declared.op.DescAnswer.{DescAnswer}
use Rattle.nr_desc.specs.declared.op.DescOp.{DescOp}
use Rattle.nr_desc.specs.declared.op.DescOp.TheVariants as op

-- a word that is unchanged releases no goroutine
pub let_go_same : (word : WaitWord) → let_go word word ≡ None
let_go_same Nil = refl
let_go_same Ready = refl
let_go_same Wait = refl
let_go_same (Held g) = refl

-- words that are unchanged release no goroutine
pub none_let_go : (words : Sides WaitWord) → twice None ≡ both_let_go words words
none_let_go words =
    let read = let_go_same words.read in
    let write = let_go_same words.write in
    cc

held : (before after : WaitWord) (g : ℕ) → let_go before after ≡ Some g → before ≡ Held g
held (Held h) (Held k) g is = cc
held (Held h) after g is = ap Held (same_Some h g is)
held before after g is = cc

side_held : (side : Side) (old new : Sides WaitWord) (g : ℕ) → of_side side (both_let_go old new) ≡ Some g → of_side side old ≡ Held g
side_held Read old new g is = held old.read new.read g is
side_held Write old new g is = held old.write new.write g is

none_held : (side : Side) (word : WaitWord) (g : ℕ) → of_side side (twice None) ≡ Some g → word ≡ Held g
none_held Read word g is = cc
none_held Write word g is = cc

held_by : (op : DescOp) (old new : Descriptor) (side : Side) (g : ℕ) → of_side side (woken_by op old new) ≡ Some g → of_side side old.words ≡ Held g
held_by (op.SetDeadline clock mode t) old new side g is = side_held side old.words new.words g is
held_by op.Evict old new side g is = side_held side old.words new.words g is
held_by (op.Fire function sequence) old new side g is = side_held side old.words new.words g is
held_by (op.Event tag mode error) old new side g is = side_held side old.words new.words g is
held_by _ old new side g is = none_held side (of_side side old.words) g is

-- a goroutine that is woken at a side was held by that side's word
pub woken_held : (old new : Descriptor) (op : DescOp) (answer : DescAnswer) (side : Side) (g : ℕ) → StepTo old op answer new → of_side side answer.woken ≡ Some g → of_side side old.words ≡ Held g
woken_held old new op answer side g step is = held_by op old new side g (ap (of_side side) (sym step.woken) ∙ is)
