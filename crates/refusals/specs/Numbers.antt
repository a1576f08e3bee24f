-- The numbers for no, each in one place. 0 is the number of a call that isn't refused.
use Rattle.std.specs.Prelude.{ℕ}

abbrev pub accepted : ℕ
accepted = 0

-- a key, or all keys, not of the length due
abbrev pub bad_key : ℕ
bad_key = 1

-- an initial value not of its cipher's length, or pair name not 6
abbrev pub bad_value : ℕ
bad_value = 2

-- the C interface's own: bytes lent as a cipher that are not as many as its record has
abbrev pub not_a_cipher : ℕ
not_a_cipher = 3

-- name count over 32; a name byte outside 32..126
abbrev pub long_name : ℕ
long_name = 11

abbrev pub bad_name : ℕ
bad_name = 12

-- key count not the cipher's; key number over 3
abbrev pub bad_key_count : ℕ
bad_key_count = 13

abbrev pub bad_key_number : ℕ
bad_key_number = 14

-- sample count over 16,384
abbrev pub many_samples : ℕ
many_samples = 15

-- loop count over 8, or an odd run in sealing
abbrev pub many_loops : ℕ
many_loops = 16

-- a loop out of rule
abbrev pub bad_loop : ℕ
bad_loop = 17

-- bytes after the last section
abbrev pub more_bytes : ℕ
more_bytes = 18

-- output too short (link receiver: under 7 bytes)
abbrev pub no_room : ℕ
no_room = 19

-- no session number left
abbrev pub no_session : ℕ
no_session = 20

-- sound over 32,768 bytes
abbrev pub long_sound : ℕ
long_sound = 21

-- no transfer under way
abbrev pub no_transfer : ℕ
no_transfer = 22

-- lent sound not of the length begun; receiver's buffer shorter than the transfer, for a block
abbrev pub wrong_sound : ℕ
wrong_sound = 23

-- not a frame for this end, or session 0, length over 32,768, or block count outside 1..64
abbrev pub not_a_frame : ℕ
not_a_frame = 24

-- frame of another session (receiver: opening of a lower one)
abbrev pub other_session : ℕ
other_session = 25

-- a count or block that can't be: Holds over k + 1, Holds over 0 while opening, Too long while sending, block number
-- not below the blocks, byte count not that block's
abbrev pub impossible : ℕ
impossible = 26

-- a link record out of rule
abbrev pub out_of_rule : ℕ
out_of_rule = 27

-- file ends inside its name section; its key section; its sample section; its loop section
abbrev pub cut_in_name : ℕ
cut_in_name = 30

abbrev pub cut_in_key : ℕ
cut_in_key = 31

abbrev pub cut_in_samples : ℕ
cut_in_samples = 32

abbrev pub cut_in_loops : ℕ
cut_in_loops = 33

-- sealing: a sample of -32768
abbrev pub lowest_sample : ℕ
lowest_sample = 34

-- stereo: an odd number of samples
abbrev pub odd_samples : ℕ
odd_samples = 35

-- receiver: opening of its own session with another length
abbrev pub other_length : ℕ
other_length = 36

-- sender: asked for a block over 15 past the known ones, or past the sound's end
abbrev pub outside_window : ℕ
outside_window = 37

-- the tag isn't the file's
abbrev pub wrong_tag : ℕ
wrong_tag = 38

-- file ends inside its tag section, or the section's count isn't the tag's length
abbrev pub bad_tag_section : ℕ
bad_tag_section = 45
