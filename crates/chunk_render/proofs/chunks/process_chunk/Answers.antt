-- `process_chunk` meets its contract. Assumes nothing.
use Rattle.std.proofs.Common.{sym, subst, arith}
use Rattle.mixer.specs.declared.mixer.Mixer.{Mixer}
use Rattle.mixer.specs.Mixes.{MixerMixes}
use Rattle.chunk_render.specs.Block.{CanMix}
use Rattle.chunk_render.proofs.laws.Turn.{starts_before, turn_short, moved_hour, moved_is, moved_done, moved_samples}
use Rattle.chunk_render.proofs.laws.Follows.{moved_follows, mixed_kept}
use Rattle.chunk_render.proofs.chunks.process_chunk.Goals as goal

pub chunk_frames-frames-requires-clause-chunk_in_block : goal.chunk_frames-frames-requires-clause-chunk_in_block
chunk_frames-frames-requires-clause-chunk_in_block c = starts_before c.args.scene.now.head c.requires.scene_ok.buffer.0 c.args.k c.requires.inside

pub chunk_seconds-requires : goal.chunk_seconds-requires
chunk_seconds-requires c = (c.requires.scene_ok.rate.1, omega (arith, turn_short c.args.scene.now.head c.requires.scene_ok.buffer.0 c.args.k c.requires.inside c.chunk_frames-frames.ensures c.requires.scene_ok.buffer.1, c.requires.scene_ok.buffer.1))

pub update-requires-clause-in_an_hour : goal.update-requires-clause-in_an_hour
update-requires-clause-in_an_hour c = moved_hour c.args.scene.now c.args.k c.args.mixer.now c.chunk_frames-frames.ensures c.chunk_seconds.ensures c.requires.scene_ok

pub put_chunk-requires-clause-mixer_fits_scene : goal.put_chunk-requires-clause-mixer_fits_scene
put_chunk-requires-clause-mixer_fits_scene c =
    subst (MixerMixes c.args.scene.now)
    (sym (moved_is c.args.scene.now c.args.k c.args.mixer.now c.chunk_frames-frames.ensures c.chunk_seconds.ensures c.update.ensures)) c.requires.can_mix.mixes

pub put_chunk-requires-clause-follows : goal.put_chunk-requires-clause-follows
put_chunk-requires-clause-follows c = λ h. moved_follows c.args.scene.now c.chunk_seconds.result c.args.mixer.now c.args.chunk.now (c.requires.kept h) c.update.ensures

pub mix_chunk-requires-clause-can_mix : goal.mix_chunk-requires-clause-can_mix
mix_chunk-requires-clause-can_mix c =
    subst (λ (x : Mixer). CanMix c.args.scene.now c.args.heard.now x)
    (sym (moved_is c.args.scene.now c.args.k c.args.mixer.now c.chunk_frames-frames.ensures c.chunk_seconds.ensures c.update.ensures)) c.requires.can_mix

pub mix_chunk-requires-clause-frames_in_a_chunk : goal.mix_chunk-requires-clause-frames_in_a_chunk
mix_chunk-requires-clause-frames_in_a_chunk c = turn_short c.args.scene.now.head c.requires.scene_ok.buffer.0 c.args.k c.requires.inside c.chunk_frames-frames.ensures c.requires.scene_ok.buffer.1

pub returns-clause-state : goal.returns-clause-state
returns-clause-state c = moved_done c.args.scene.now c.args.k c.args.mixer.now c.chunk_frames-frames.ensures c.chunk_seconds.ensures c.update.ensures c.mix_chunk.ensures.state

pub returns-clause-samples : goal.returns-clause-samples
returns-clause-samples c = moved_samples c.args.scene.now c.args.k c.args.mixer.now c.chunk_frames-frames.ensures c.chunk_seconds.ensures c.update.ensures c.args.heard.now c.mix_chunk.ensures.samples

pub returns-clause-kept : goal.returns-clause-kept
returns-clause-kept c = mixed_kept c.args.scene.now c.chunk_frames-frames.result c.chunk_frames-frames.result c.update.new.mixer c.put_chunk.new.chunk c.put_chunk.ensures c.mix_chunk.ensures.state
