-- The bytes are stored one by one from the front on (`stored`), and are the definition's by how many they are.
use native.Mathlib.Omega.{arith}
use mathlib.Core.List.{[], ◌∷◌}
use lib.ListN.{length-set}
use Rattle.lemmas.proofs.Over.{stored}
use Rattle.utf8.proofs.EncodingLaws.{encode_1, encode_2, encode_3, encode_4, room_one, room_two, room_three, room_four}
use Rattle.utf8.proofs.encoding.encode_into.Goals as goal

pub bounds-out-0 : goal.bounds-out-0
bounds-out-0 c = omega (arith, room_one c.requires c.if-c-lt128.true)

pub returns-then-c-lt128 : goal.returns-then-c-lt128
returns-then-c-lt128 c = stored _ (_ ∷ []) _ (encode_1 _ c.if-c-lt128.true) c.requires.room

pub bounds-out-0-then-c-lt2048 : goal.bounds-out-0-then-c-lt2048
bounds-out-0-then-c-lt2048 c = omega (arith, room_two c.requires c.if-c-lt128.false c.if-c-lt2048.true)

pub bounds-out-1 : goal.bounds-out-1
bounds-out-1 c = simp length-set (omega (arith, room_two c.requires c.if-c-lt128.false c.if-c-lt2048.true))

pub returns-then-c-lt2048 : goal.returns-then-c-lt2048
returns-then-c-lt2048 c = stored _ (_ ∷ _ ∷ []) _ (encode_2 _ c.if-c-lt128.false c.if-c-lt2048.true) c.requires.room

pub bounds-out-0-then-c-lt65536 : goal.bounds-out-0-then-c-lt65536
bounds-out-0-then-c-lt65536 c = omega (arith, room_three c.requires c.if-c-lt2048.false c.if-c-lt65536.true)

pub bounds-out-1-then-c-lt65536 : goal.bounds-out-1-then-c-lt65536
bounds-out-1-then-c-lt65536 c = simp length-set (omega (arith, room_three c.requires c.if-c-lt2048.false c.if-c-lt65536.true))

pub bounds-out-2 : goal.bounds-out-2
bounds-out-2 c = simp length-set (omega (arith, room_three c.requires c.if-c-lt2048.false c.if-c-lt65536.true))

pub returns-then-c-lt65536 : goal.returns-then-c-lt65536
returns-then-c-lt65536 c = stored _ (_ ∷ _ ∷ _ ∷ []) _ (encode_3 _ c.if-c-lt2048.false c.if-c-lt65536.true) c.requires.room

pub bounds-out-0-2 : goal.bounds-out-0-2
bounds-out-0-2 c = omega (arith, room_four c.requires c.if-c-lt65536.false)

pub bounds-out-1-2 : goal.bounds-out-1-2
bounds-out-1-2 c = simp length-set (omega (arith, room_four c.requires c.if-c-lt65536.false))

pub bounds-out-2-2 : goal.bounds-out-2-2
bounds-out-2-2 c = simp length-set (omega (arith, room_four c.requires c.if-c-lt65536.false))

pub bounds-out-3 : goal.bounds-out-3
bounds-out-3 c = simp length-set (omega (arith, room_four c.requires c.if-c-lt65536.false))

pub returns : goal.returns
returns c = stored _ (_ ∷ _ ∷ _ ∷ _ ∷ []) _ (encode_4 _ c.if-c-lt65536.false) c.requires.room
