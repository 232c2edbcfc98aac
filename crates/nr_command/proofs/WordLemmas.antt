-- Each command can be read back from its word, and no other number is read as a command.
use Rattle.std.proofs.Common.{◌≡◌, ℕ, zero, suc, ◌+◌, ◌*◌, ◌/◌, ◌%◌, ◌^◌, ◌<◌, ◌≤◌, Bool, true, false, cond, Option, Some, None, nat_eq, nat_lt, refl, sym, ap, subst, ◌∙◌, arith}
use Rattle.std.specs.Prelude.{IfSome}
use Rattle.std.specs.Option.{option_map, option_or}
use Rattle.std.proofs.lemmas.Bool.{lt-ltb, ltb-true, eqb-true}
use Rattle.std.specs.declared.num.NonZeroU32.{NonZeroU32}
use Rattle.nr_rev.specs.declared.cell.Cell.{Cell}
use Rattle.nr_rev.specs.declared.kind.Kind.{Kind}
use Rattle.nr_rev.specs.CellName.{cell_index, cell_number, cell_numbered, cells_at}
use Rattle.nr_rev.specs.Kind.{kind_number, kind_numbered, kinds}
use Rattle.nr_rev.proofs.NameLookupLemmas.{found_numbered, found_at}
use Rattle.nr_command.specs.Count.{from_one}
use Rattle.nr_marks.specs.declared.mark.Break.{Break}
use Rattle.nr_marks.specs.declared.mark.Break.TheVariants as breaks
use Rattle.nr_search.specs.declared.direction.Direction.{Direction}
use Rattle.nr_search.specs.declared.direction.Direction.TheVariants.{Forward, Backward}
use Rattle.nr_command.specs.declared.command.Command.{Command}
use Rattle.nr_command.specs.declared.command.Command.TheVariants.{Step, ReverseStep, Continue, ReverseContinue, SetDirection, Watch, Delete, Checkpoint, Restart, DeleteCheckpoint, TemporaryBreak}
use Rattle.nr_command.specs.declared.command.Command.TheVariants as commands
use Rattle.nr_command.specs.Word.{◌>>=◌, argument_of, break_number, break_numbered, cell_at, command_of, command_with, direction_numbered, from_one_below, index_or_0, only_without, opcode_of, small, watch_at, word_of}
use Rattle.nr_command.specs.Auxiliary.Word.{HasTypedNumbers, HasTypedStep}
use Rattle.nr_command.proofs.CountLemmas.{from_one_is}

-- the lowest byte of a word is its opcode, the next byte its tag, and the rest its argument
opcode_again : (o t a : ℕ) → o < 256 → (o + 256 * t + 65536 * a) % 256 ≡ o
opcode_again o t a h = omega (arith, h)

tag_again : (o t a : ℕ) → o < 256 → t < 256 → (o + 256 * t + 65536 * a) / 256 % 256 ≡ t
tag_again o t a h small = omega (arith, h, small)

argument_again : (o t a : ℕ) → o < 256 → t < 256 → (o + 256 * t + 65536 * a) / 65536 ≡ a
argument_again o t a h small = omega (arith, h, small)

opcode_small : (command : Command) → opcode_of command < 256
opcode_small Continue = omega arith
opcode_small _ = omega arith

small_again : (n : ℕ) → n < 2 ^ 32 → small n ≡ Some n
small_again n h = ap (λ (b : Bool). cond b (Some n) None) (lt-ltb n (2 ^ 32) h)

count_again : (count : NonZeroU32) → count.value < 2 ^ 32 → from_one_below count.value ≡ Some count
count_again count h = ap (λ o. o >>= from_one) (small_again count.value h) ∙ sym (from_one_is count.value count refl)

kind_break : (a : ℕ) (kind : Kind) → a % 256 ≡ 0 → kind_numbered (a / 256) ≡ Some kind → break_numbered a ≡ Some (breaks.Kind kind)
kind_break a kind low is =
    ap (λ r. cond (nat_eq r 0) (option_map breaks.Kind (kind_numbered (a / 256))) (cond (nat_eq r 1) (option_map breaks.Step (from_one_below (a / 256))) None)) low
    ∙ ap (option_map breaks.Kind) is

step_break : (a : ℕ) (step : NonZeroU32) → a % 256 ≡ 1 → from_one_below (a / 256) ≡ Some step → break_numbered a ≡ Some (breaks.Step step)
step_break a step low is =
    ap (λ r. cond (nat_eq r 0) (option_map breaks.Kind (kind_numbered (a / 256))) (cond (nat_eq r 1) (option_map breaks.Step (from_one_below (a / 256))) None)) low
    ∙ ap (option_map breaks.Step) is

kind_numbered_again : (kind : Kind) → kind_numbered (kind_number kind) ≡ Some kind
kind_numbered_again Kind.Spawn = refl
kind_numbered_again _ = refl

kind_number_small : (kind : Kind) → kind_number kind < 256
kind_number_small Kind.Spawn = omega arith
kind_number_small _ = omega arith

-- a number that isn't a byte isn't the number of a kind
pub no_kind : (n : ℕ) → 256 ≤ n → kind_numbered n ≡ None
no_kind n big = read_back (kind_numbered n) refl
  where
    read_back : (found : Option Kind) → kind_numbered n ≡ found → found ≡ None
    read_back None e = refl
    read_back (Some kind) e = let number = found_numbered kind_number kinds n kind e in let low = kind_number_small kind in absurd (omega (arith, number, low, big))

break_again : (at : Break) → HasTypedStep at → break_numbered (break_number at) ≡ Some at
break_again (breaks.Kind kind) h =
    let k = kind_number kind in
    let high : (256 * k) / 256 ≡ k = omega arith in
    kind_break (256 * k) kind (omega arith) (ap kind_numbered high ∙ kind_numbered_again kind)
break_again (breaks.Step step) h =
    let n = step.value in
    let high : (1 + 256 * n) / 256 ≡ n = omega arith in
    step_break (1 + 256 * n) step (omega arith) (ap from_one_below high ∙ count_again step h)

either_way : {A : Type 0} (b : Bool) (x : A) → cond b x x ≡ x
either_way true x = refl
either_way false x = refl

cell_at_again : (cell : Cell) → cell_at (cell_number cell) (index_or_0 (cell_index cell)) ≡ Some cell
cell_at_again Cell.Clock = refl
cell_at_again Cell.Waiters = refl
cell_at_again Cell.Timers = refl
cell_at_again Cell.Firings = refl
cell_at_again Cell.Least = refl
cell_at_again cell = either_way (nat_eq (index_or_0 (cell_index cell)) 0) (Some cell)

cell_number_small : (cell : Cell) → cell_number cell < 256
cell_number_small Cell.Clock = omega arith
cell_number_small _ = omega arith

index_small : (cell : Cell) → HasTypedNumbers (Watch cell) → index_or_0 (cell_index cell) < 2 ^ 32
index_small cell h = elim (cell_index cell) as (λ (i : Option ℕ). IfSome i (λ i. i < 2 ^ 32) → index_or_0 i < 2 ^ 32) [ None ↦ λ h. omega arith | Some i ↦ λ h. h ] h

watch_again : (cell : Cell) → HasTypedNumbers (Watch cell) → watch_at (argument_of (Watch cell)) ≡ Some cell
watch_again cell h =
    let n = cell_number cell in
    let i = index_or_0 (cell_index cell) in
    let below = cell_number_small cell in
    let low : (n + 256 * i) % 256 ≡ n = omega (arith, below) in
    let high : (n + 256 * i) / 256 ≡ i = omega (arith, below) in
    ap (λ r. small ((n + 256 * i) / 256) >>= cell_at r) low
    ∙ ap (λ q. small q >>= cell_at n) high
    ∙ ap (λ o. o >>= cell_at n) (small_again i (index_small cell h))
    ∙ cell_at_again cell

-- each command can be made again from its opcode and its argument
made_again : (command : Command) → HasTypedNumbers command → command_with (opcode_of command) (argument_of command) ≡ Some command
made_again (Step count) h = ap (option_map Step) (count_again count h)
made_again (ReverseStep count) h = ap (option_map ReverseStep) (count_again count h)
made_again Continue h = refl
made_again ReverseContinue h = refl
made_again (SetDirection Forward) h = refl
made_again (SetDirection Backward) h = refl
made_again (commands.Break at) h = ap (option_map commands.Break) (break_again at h)
made_again (Watch cell) h = ap (option_map Watch) (watch_again cell h)
made_again (Delete n) h = ap (option_map Delete) (small_again n h)
made_again Checkpoint h = refl
made_again (Restart n) h = ap (option_map Restart) (small_again n h)
made_again (DeleteCheckpoint n) h = ap (option_map DeleteCheckpoint) (small_again n h)
made_again (TemporaryBreak at) h = ap (option_map TemporaryBreak) (break_again at h)

pub read_again : (tag : ℕ) (command : Command) → tag < 256 → HasTypedNumbers command → command_of (word_of tag command) ≡ Some (tag, command)
read_again tag command fits typed =
    let o = opcode_of command in
    let a = argument_of command in
    let low = opcode_small command in
    ap (λ t. option_map (λ c. (t, c)) (command_with (word_of tag command % 256) (word_of tag command / 65536))) (tag_again o tag a low fits)
    ∙ ap (λ k. option_map (λ c. (tag, c)) (command_with k (word_of tag command / 65536))) (opcode_again o tag a low)
    ∙ ap (λ k. option_map (λ c. (tag, c)) (command_with o k)) (argument_again o tag a low fits)
    ∙ ap (option_map (λ c. (tag, c))) (made_again command typed)

-- true if this opcode and this argument are those of the command
abbrev Reads : ℕ → ℕ → Command → Type 0
Reads o a command = (o ≡ opcode_of command) × (a ≡ argument_of command) × HasTypedNumbers command

branch : {A : Type 0} (b : Bool) (x y : Option A) (c : A) (P : Type 0) → (b ≡ true → x ≡ Some c → P) → (y ≡ Some c → P) → cond b x y ≡ Some c → P
branch true x y c P first second e = first refl e
branch false x y c P first second e = second e

mapped : {A B : Type 0} (f : A → B) (o : Option A) (c : B) → option_map f o ≡ Some c → (a : A) × (o ≡ Some a) × (f a ≡ c)
mapped f None c e = cc
mapped f (Some a) c e = (a, refl, cc)

small_read : (a n : ℕ) → small a ≡ Some n → (a ≡ n) × (a < 2 ^ 32)
small_read a n = branch (nat_lt a (2 ^ 32)) (Some a) None n ((a ≡ n) × (a < 2 ^ 32)) (λ fits e. (cc, ltb-true a (2 ^ 32) fits)) (λ e. cc)

value_in : Option NonZeroU32 → ℕ
value_in None = 0
value_in (Some count) = count.value

one_read : (n : ℕ) (count : NonZeroU32) → from_one n ≡ Some count → n ≡ count.value
unfolding value_in
one_read zero count e = cc
one_read (suc n) count e = ap value_in e

then_read : {A B : Type 0} (o : Option A) (f : A → Option B) (c : B) → (o >>= f) ≡ Some c → (a : A) × (o ≡ Some a) × (f a ≡ Some c)
then_read None f c e = cc
then_read (Some a) f c e = (a, refl, e)

count_read : (a : ℕ) (count : NonZeroU32) → from_one_below a ≡ Some count → (a ≡ count.value) × (count.value < 2 ^ 32)
count_read a count e =
    let found = then_read (small a) from_one count e in
    let fits = small_read a found.0 found.1 in
    let is = one_read found.0 count found.2 in
    (fits.0 ∙ is, omega (arith, fits.0, fits.1, is))

break_read : (a : ℕ) (at : Break) → break_numbered a ≡ Some at → (a ≡ break_number at) × HasTypedStep at
break_read a at =
    branch (nat_eq (a % 256) 0) _ _ at _
    (λ low e. of_kind (eqb-true (a % 256) 0 low) (mapped breaks.Kind (kind_numbered (a / 256)) at e))
    (branch (nat_eq (a % 256) 1) _ _ at _ (λ low e. of_step (eqb-true (a % 256) 1 low) (mapped breaks.Step (from_one_below (a / 256)) at e)) (λ e. cc))
  where
    of_kind : a % 256 ≡ 0 → (kind : Kind) × (kind_numbered (a / 256) ≡ Some kind) × (breaks.Kind kind ≡ at) → (a ≡ break_number at) × HasTypedStep at
    of_kind low found =
        let number = found_numbered kind_number kinds (a / 256) found.0 found.1 in
        let is : a ≡ 256 * kind_number found.0 = omega (arith, low, number) in
        subst (λ b. (a ≡ break_number b) × HasTypedStep b) found.2 (is, tt)

    of_step : a % 256 ≡ 1 → (step : NonZeroU32) × (from_one_below (a / 256) ≡ Some step) × (breaks.Step step ≡ at) → (a ≡ break_number at) × HasTypedStep at
    of_step low found =
        let number = count_read (a / 256) found.0 found.1 in
        let same = number.0 in
        let is : a ≡ 1 + 256 * found.0.value = omega (arith, low, same) in
        subst (λ b. (a ≡ break_number b) × HasTypedStep b) found.2 (is, number.1)

direction_read : (a : ℕ) (direction : Direction) → direction_numbered a ≡ Some direction → a ≡ argument_of (SetDirection direction)
direction_read a direction =
    branch (nat_eq a 0) _ _ direction _
    (λ is e. eqb-true a 0 is ∙ forward e)
    (branch (nat_eq a 1) _ _ direction _ (λ is e. eqb-true a 1 is ∙ reverse e) (λ e. cc))
  where
    forward : ◌≡◌ {A = Option Direction} (Some Forward) (Some direction) → 0 ≡ argument_of (SetDirection direction)
    forward e = let is : Forward ≡ direction = cc in subst (λ d. 0 ≡ argument_of (SetDirection d)) is refl

    reverse : ◌≡◌ {A = Option Direction} (Some Backward) (Some direction) → 1 ≡ argument_of (SetDirection direction)
    reverse e = let is : Backward ≡ direction = cc in subst (λ d. 1 ≡ argument_of (SetDirection d)) is refl

either_read : {A : Type 0} (x y : Option A) (c : A) (P : Type 0) → (x ≡ Some c → P) → (y ≡ Some c → P) → option_or x y ≡ Some c → P
either_read None y c P first second e = second e
either_read (Some x) y c P first second e = first e

-- if a cell is read from a number and an index, they are the cell's number and index
numbered_read : (n : ℕ) (index : Option ℕ) (cell : Cell) → IfSome index (λ i. i < 2 ^ 32) → cell_numbered n index ≡ Some cell
    → (n + 256 * index_or_0 index ≡ argument_of (Watch cell)) × HasTypedNumbers (Watch cell)
numbered_read n index cell fits e =
    let number = found_numbered cell_number (cells_at index) n cell e in
    let at = found_at _ index cell e in
    (ap (λ k. k + 256 * index_or_0 index) number ∙ ap (λ i. cell_number cell + 256 * index_or_0 i) at, subst (λ i. IfSome i (λ i. i < 2 ^ 32)) at fits)

watch_read : (a : ℕ) (cell : Cell) → watch_at a ≡ Some cell → (a ≡ argument_of (Watch cell)) × HasTypedNumbers (Watch cell)
watch_read a cell e =
    let found = then_read (small (a / 256)) (cell_at (a % 256)) cell e in
    let fits = small_read (a / 256) found.0 found.1 in
    let high = fits.0 in
    let i = found.0 in
    let below : i < 2 ^ 32 = omega (arith, high, fits.1) in
    let whole : a ≡ a % 256 + 256 * i = omega (arith, high) in
    let with_index : cell_numbered (a % 256) (Some i) ≡ Some cell → (a ≡ argument_of (Watch cell)) × HasTypedNumbers (Watch cell) =
    λ is. (let read = numbered_read (a % 256) (Some i) cell below is in (whole ∙ read.0, read.1)) in
    let without : i ≡ 0 → cell_numbered (a % 256) None ≡ Some cell → (a ≡ argument_of (Watch cell)) × HasTypedNumbers (Watch cell) =
    λ zero is. (let read = numbered_read (a % 256) None cell tt is in (whole ∙ ap (λ j. a % 256 + 256 * j) zero ∙ read.0, read.1)) in
    branch (nat_eq i 0) _ _ cell _ (λ zero o. either_read _ _ cell _ (without (eqb-true i 0 zero)) with_index o) with_index found.2

nothing_read : (a : ℕ) (command c : Command) → only_without a command ≡ Some c → (a ≡ 0) × (command ≡ c)
nothing_read a command c = branch (nat_eq a 0) (Some command) None c _ (λ is e. (eqb-true a 0 is, cc)) (λ e. cc)

-- a command that is read from an opcode and a number has this opcode and this number
module _ (o a : ℕ) (c : Command) where
  count_with : (f : NonZeroU32 → Command) → ((n : NonZeroU32) → n.value < 2 ^ 32 → Reads o n.value (f n)) → option_map f (from_one_below a) ≡ Some c → Reads o a c
  count_with f reads e =
      let found = mapped f (from_one_below a) c e in
      let is = count_read a found.0 found.1 in
      subst (Reads o a) found.2 (subst (λ k. Reads o k (f found.0)) (sym is.0) (reads found.0 is.1))

  number_with : (f : ℕ → Command) → ((n : ℕ) → n < 2 ^ 32 → Reads o n (f n)) → option_map f (small a) ≡ Some c → Reads o a c
  number_with f reads e =
      let found = mapped f (small a) c e in
      let is = small_read a found.0 found.1 in
      let same = is.0 in
      subst (Reads o a) found.2 (subst (λ k. Reads o k (f found.0)) (sym same) (reads found.0 (subst (λ k. k < 2 ^ 32) same is.1)))

  nothing_with : (command : Command) → Reads o 0 command → only_without a command ≡ Some c → Reads o a c
  nothing_with command reads e =
      let is = nothing_read a command c e in
      subst (Reads o a) is.1 (subst (λ k. Reads o k command) (sym is.0) reads)

  direction_with : o ≡ 5 → option_map SetDirection (direction_numbered a) ≡ Some c → Reads o a c
  direction_with is e =
      let found = mapped SetDirection (direction_numbered a) c e in
      subst (Reads o a) found.2 (is, direction_read a found.0 found.1, tt)

  break_with : (f : Break → Command) → ((at : Break) → HasTypedStep at → Reads o (break_number at) (f at)) → option_map f (break_numbered a) ≡ Some c → Reads o a c
  break_with f reads e =
      let found = mapped f (break_numbered a) c e in
      let read = break_read a found.0 found.1 in
      subst (Reads o a) found.2 (subst (λ k. Reads o k (f found.0)) (sym read.0) (reads found.0 read.1))

  watch_with : o ≡ 7 → option_map Watch (watch_at a) ≡ Some c → Reads o a c
  watch_with is e =
      let found = mapped Watch (watch_at a) c e in
      let read = watch_read a found.0 found.1 in
      subst (Reads o a) found.2 (is, read.0, read.1)

  made_read : command_with o a ≡ Some c → Reads o a c
  made_read =
      branch (nat_eq o 1) _ _ c _ (λ k. let is = eqb-true o 1 k in count_with Step (λ n h. (is, refl, h)))
      (branch (nat_eq o 2) _ _ c _ (λ k. let is = eqb-true o 2 k in count_with ReverseStep (λ n h. (is, refl, h)))
      (branch (nat_eq o 3) _ _ c _ (λ k. let is = eqb-true o 3 k in nothing_with Continue (is, refl, tt))
      (branch (nat_eq o 4) _ _ c _ (λ k. let is = eqb-true o 4 k in nothing_with ReverseContinue (is, refl, tt))
      (branch (nat_eq o 5) _ _ c _ (λ k. direction_with (eqb-true o 5 k))
      (branch (nat_eq o 6) _ _ c _ (λ k. let is = eqb-true o 6 k in break_with commands.Break (λ at h. (is, refl, h)))
      (branch (nat_eq o 7) _ _ c _ (λ k. watch_with (eqb-true o 7 k))
      (branch (nat_eq o 8) _ _ c _ (λ k. let is = eqb-true o 8 k in number_with Delete (λ n h. (is, refl, h)))
      (branch (nat_eq o 9) _ _ c _ (λ k. let is = eqb-true o 9 k in nothing_with Checkpoint (is, refl, tt))
      (branch (nat_eq o 10) _ _ c _ (λ k. let is = eqb-true o 10 k in number_with Restart (λ n h. (is, refl, h)))
      (branch (nat_eq o 11) _ _ c _ (λ k. let is = eqb-true o 11 k in number_with DeleteCheckpoint (λ n h. (is, refl, h)))
      (branch (nat_eq o 12) _ _ c _ (λ k. let is = eqb-true o 12 k in break_with TemporaryBreak (λ at h. (is, refl, h)))
      (λ e. cc))))))))))))

pub word_read : (n tag : ℕ) (command : Command) → command_of n ≡ Some (tag, command) → (n ≡ word_of tag command) × (tag < 256) × HasTypedNumbers command
word_read n tag command e =
    let found = mapped (λ c. (n / 256 % 256, c)) (command_with (n % 256) (n / 65536)) (tag, command) e in
    let same : found.0 ≡ command = ap (λ p. p.1) found.2 in
    let is : n / 256 % 256 ≡ tag = ap (λ p. p.0) found.2 in
    let read : Reads (n % 256) (n / 65536) command = subst (Reads (n % 256) (n / 65536)) same (made_read (n % 256) (n / 65536) found.0 found.1) in
    let low = read.0 in
    let high = read.1 in
    (omega (arith, low, high, is), omega (arith, is), read.2)
