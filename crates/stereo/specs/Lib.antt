pub mod Stereo
pub mod StereoLaws
pub mod StereoTheorems
pub mod Answers
