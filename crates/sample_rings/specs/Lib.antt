pub mod SampleRings
