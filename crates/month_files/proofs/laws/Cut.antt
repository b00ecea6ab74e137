-- However mixes are cut into pieces, the stream stands for the whole files. Assumes nothing.
use mathlib.Core.Path.{◌≡◌, refl, sym, ap, ◌∙◌}
use mathlib.Core.List.{List, [], ◌∷◌, ◌++◌, map, append_assoc, append-nil}
use Prim.Native.Nat.{ℕ}
use lib.ListN.{take}
use Rattle.scene_tables.specs.Bytes.{joined}
use Rattle.month_reader.specs.declared.stream.Stream.{Stream}
use Rattle.month_reader.specs.Reading.{MixFile, stream_of}
use Rattle.month_files.specs.declared.lines.Lines.{Lines}
use Rattle.month_files.specs.Lines.{no_lines, lines_from, channels_of, head_bytes, input_number}
use Rattle.month_files.specs.Month.{mix_files, WasRead}
use Rattle.month_files.specs.Cut.{Pieces, InPieces}

-- what comes after some pieces comes after a stream that stands for all their bytes
pub record After (done : List MixFile) (bytes : List ℕ) (Rest : Stream → Type 0) : Type 0 where
  pub stream : Stream
  pub is : stream ≡ stream_of done bytes
  pub rest : Rest stream

after_pieces : (done : List MixFile) (bytes : List ℕ) (pieces : List (List ℕ)) (Rest : Stream → Type 0) (s : Stream) → s ≡ stream_of done bytes → Pieces s pieces Rest
    → After done (bytes ++ joined pieces) Rest
unfolding joined
after_pieces done bytes [] Rest s e h = record { stream = s; is = e ∙ ap (stream_of done) (sym (append-nil bytes)); rest = h }
after_pieces done bytes (p ∷ ps) Rest s e h =
    let a = after_pieces done (bytes ++ p) ps Rest h.next (h.is done bytes e) h.rest in
    record { stream = a.stream; is = a.is ∙ ap (stream_of done) (append_assoc bytes p (joined ps)); rest = a.rest }

mixes_whole : (done : List MixFile) (channels : List ℕ) (files : List (List (List ℕ))) (s last : Stream) → s ≡ stream_of done [] → InPieces s channels files last
    → last ≡ stream_of (done ++ mix_files channels (map joined files)) []
unfolding mix_files
mixes_whole done [] files s last e h = sym h ∙ e ∙ ap (λ (ms : List MixFile). stream_of ms []) (sym (append-nil done))
mixes_whole done (c ∷ cs) [] s last e h =
    let m : MixFile = record { channels = c; bytes = [] } in
    mixes_whole (done ++ (m ∷ [])) cs [] h.next last (h.is done [] e) h.rest
    ∙ ap (λ (ms : List MixFile). stream_of ms []) (append_assoc done (m ∷ []) (mix_files cs []))
mixes_whole done (c ∷ cs) (file ∷ files) s last e h =
    let a = after_pieces done [] file _ s e h in
    let m : MixFile = record { channels = c; bytes = joined file } in
    mixes_whole (done ++ (m ∷ [])) cs files a.rest.next last (a.rest.is done (joined file) a.is) a.rest.rest
    ∙ ap (λ (ms : List MixFile). stream_of ms []) (append_assoc done (m ∷ []) (mix_files cs (map joined files)))

-- for every cut the month that was read is that of the whole files
pub cut_anywhere : (input : List ℕ) (files : List (List (List ℕ))) (lines : Lines) (first last : Stream) → lines ≡ lines_from no_lines input → first ≡ stream_of [] []
    → (input_number input ≡ 0 → InPieces first (channels_of input) files last)
    → WasRead input (map joined files) (take head_bytes input) lines last
cut_anywhere input files lines first last e f h =
    record { first = refl; lines_are = e; mixes_are = λ z. mixes_whole [] (channels_of input) files first last f (h z) }
