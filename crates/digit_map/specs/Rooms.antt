-- Room for the places of a map. Assumes nothing.
use Rattle.std.specs.Prelude.{ℕ, ◌+◌, ◌<◌, ◌≤◌, Ok, Err, Result}
use Rattle.digit_map.specs.declared.fault.Fault.{Fault}
use Rattle.digit_map.specs.declared.progress.Last.{Last}
use Rattle.digit_map.specs.declared.progress.Last.TheVariants as last
use Rattle.digit_map.specs.declared.progress.Act.{Act}
use Rattle.digit_map.specs.declared.progress.Act.TheVariants.{Go, Put, AddDot, OpenSet, Halt}

-- in alternative n, with so many positions before it: only one that is not begun may be one too many, and a Z
-- has a position to come
abbrev pub Room : ℕ → ℕ → Last → Type 0
Room n count last.Nothing = (n ≤ 65) × (count ≤ 255)
Room n count last.Mark = (n ≤ 64) × (count ≤ 255)
Room n count last.Position = (n ≤ 64) × (count ≤ 255)
Room n count last.Dot = (n ≤ 64) × (count ≤ 255)
Room n count (last.Hold z) = (n ≤ 64) × (count < 255)

-- there is room for what a sign does, and behind it
abbrev pub RoomFor : ℕ → ℕ → Result Act Fault → Type 0
RoomFor n count (Ok (Go q)) = Room n count q.last
RoomFor n count (Ok (Put x q)) = (n ≤ 64) × (count < 255) × Room n (count + 1) q.last
RoomFor n count (Ok (AddDot q)) = Room n count q.last
RoomFor n count (Ok (OpenSet l)) = (n ≤ 64) × (count < 255)
RoomFor n count (Ok Halt) = (n ≤ 64) × (count ≤ 255)
RoomFor n count (Err e) = Unit {0}
